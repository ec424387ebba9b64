use Rattle.std.proofs.Common.{◌++◌, ◌-◌, length, take, sym, ap, map, ◌∙◌, rules, List, ℕ}
use Rattle.facet_counts.specs.declared.counter.Counted.{Counted}
use Rattle.std.proofs.lemmas.Map.Iter.{rest_more}
use Rattle.facet_counts.specs.Counting.{entry_row}
use Rattle.facet_counts.proofs.Replies.{row-more}
use Rattle.facet_counts.proofs.counter.first_rows.Goals as goal

pub loop-value-preserved : goal.loop-value-preserved
loop-value-preserved c =
    let entry : List ℕ × Counted = (c.in-Some.value, c.in-Some.counted) in
    let rows = c.loop-value.rows.items in
    let rest = rest_more (λ x. x) c.loop-value.value-iterator c.next.new.self c.next.result entry c.in-Some.is c.next.ensures.steps in
    ap (λ items. items ++ map entry_row (take (c.args.most - length items) c.next.new.self)) c.in_ok-push.ensures.items
    ∙ row-more rows c.args.most entry c.next.new.self (search rules)
    ∙ ap (λ entries. rows ++ map entry_row (take (c.args.most - length rows) entries)) (sym rest)
    ∙ c.loop-value.invariant
