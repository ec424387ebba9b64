use Rattle.std.proofs.Common.{◌∙◌, ap, unwrap_or}
use Rattle.hit_format.proofs.FirstWordLemmas.{added}
use Rattle.hit_format.proofs.term_set.add_number.Goals as goal

pub returns : goal.returns
returns c =
    added c.args.numbers.now c.remove.new.self c.insert.new.self c.args.first.now c.in_ok-clone.field-0 c.args.number c.unwrap_or-list.result c.push.new.self c.new.result
    c.remove.ensures.updates (c.unwrap_or-list.ensures ∙ ap (λ o. unwrap_or o c.new.result) c.remove.ensures.value) c.new.ensures.items c.in_ok-push.ensures.items
    c.in_ok-clone.ensures.cases c.in_ok-insert.ensures.updates
