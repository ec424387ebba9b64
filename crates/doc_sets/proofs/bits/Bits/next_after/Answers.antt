use Rattle.std.proofs.Common.{◌/◌, drop, sym, ap, ◌∙◌, arith}
use Rattle.std.specs.Prelude.{slice_get}
use Rattle.doc_sets.specs.Sets.{above}
use Rattle.doc_sets.proofs.BitLemmas.{ids_from-above, above-past, first-of}
use Rattle.doc_sets.proofs.bits.Bits.next_after.Goals as goal

pub returns-then-len-at : goal.returns-then-len-at
returns-then-len-at c =
    let d = c.args.id.0 in
    let words = c.self.inside.words in
    sym (ap (λ v. slice_get (above d v.ids) 0) (sym c.self.view_is) ∙ ap (λ v. slice_get v 0) (above-past words.items d (omega (arith, c.if-len-at.true, c.len.ensures, words.ok.0))))

pub returns : goal.returns
returns c =
    let d = c.args.id.0 in
    let words = c.self.inside.words.items in
    let from = sym (c.split_at.ensures.back ∙ ap (drop (d / 64)) c.as_slice.ensures.value) ∙ c.in_ok-word.ensures.cases.0 in
    first-of _ _ c.next.result c.next.ensures.steps ∙ ap (λ v. slice_get v 0) (ids_from-above words d c.in_ok-word.word.now c.in_ok-word.rest.now from)
    ∙ ap (λ v. slice_get (above d v.ids) 0) c.self.view_is
