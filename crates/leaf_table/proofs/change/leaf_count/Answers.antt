use Rattle.std.proofs.Common.{◌≡◌, ◌+◌, length, rules, ap, ◌∙◌, arith}
use Rattle.leaf_table.proofs.ChangeLemmas.{count_more}
use Rattle.leaf_table.proofs.change.leaf_count.Goals as goal

pub loop-row-preserved : goal.loop-row-preserved
loop-row-preserved c =
    let more = count_more c.args.come.now c.loop-row.row-index c.row-item.result c.loop-row-test.true c.row-item.is in
    let added : c.in_ok-count.count ≡ c.loop-row.count + c.len.result = search rules in
    let len : c.len.result ≡ length c.row-item.result.leaves = c.len.ensures ∙ c.row.inside.leaves.ok.0 ∙ ap (λ row. length row.leaves) c.row.view_is in
    let counted = c.loop-row.invariant in
    omega arith
