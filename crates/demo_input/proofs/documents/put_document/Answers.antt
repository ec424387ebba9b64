use Rattle.std.proofs.Common.{◌∙◌, ap}
use Rattle.demo_input.specs.Draws.{next_draw}
use Rattle.demo_input.proofs.DocumentLemmas.{document_printed, six_draws}
use Rattle.demo_input.proofs.documents.put_document.Goals as goal

pub returns-clause-text : goal.returns-clause-text
returns-clause-text c =
    document_printed c.args.number c.args.draws.now.last
    c.next-first.result c.next-second.result c.next-third.result c.next-fourth.result c.next.result c.next-2.result _ _ _ _ _
    c.next-first.ensures.drawn
    (c.next-second.ensures.drawn ∙ ap next_draw c.next-first.ensures.last)
    (c.next-third.ensures.drawn ∙ ap next_draw c.next-second.ensures.last)
    (c.next-fourth.ensures.drawn ∙ ap next_draw c.next-third.ensures.last)
    (c.next.ensures.drawn ∙ ap next_draw c.next-fourth.ensures.last)
    (c.next-2.ensures.drawn ∙ ap next_draw c.next.ensures.last)
    c.tag-tag.ensures
    c.in_ok-write.ensures.bytes
    c.in_ok-put_title.ensures
    c.in_ok-write-2.ensures.bytes

pub returns-clause-drawn : goal.returns-clause-drawn
returns-clause-drawn c =
    c.next-2.ensures.last
    ∙ six_draws c.args.draws.now.last
    c.next-first.result c.next-second.result c.next-third.result c.next-fourth.result c.next.result c.next-2.result
    c.next-first.ensures.drawn
    (c.next-second.ensures.drawn ∙ ap next_draw c.next-first.ensures.last)
    (c.next-third.ensures.drawn ∙ ap next_draw c.next-second.ensures.last)
    (c.next-fourth.ensures.drawn ∙ ap next_draw c.next-third.ensures.last)
    (c.next.ensures.drawn ∙ ap next_draw c.next-fourth.ensures.last)
    (c.next-2.ensures.drawn ∙ ap next_draw c.next.ensures.last)
