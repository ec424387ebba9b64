use Rattle.std.proofs.Common.{ap, arith}
use Rattle.leaf_table.proofs.ChangeLemmas.{below_one_more, id_of_item}
use Rattle.leaf_table.proofs.change.rows_for.Goals.{then-most-needed, else-most-needed}
use Rattle.leaf_table.proofs.change.rows_for.Goals as goal

pub loop-row-preserved : goal.loop-row-preserved
loop-row-preserved c =
    let is = id_of_item c.args.come.now c.loop-row.row-index c.row-item.result c.row.inside.id.0 c.loop-row-test.true c.row-item.is (ap (λ row. row.id) c.row.view_is) in
    elim c.if-most-needed.branch [
      | then-most-needed w ↦
          below_one_more c.args.come.now c.loop-row.row-index c.loop-row.most c.if-most-needed.most c.loop-row.invariant (omega arith) (λ d. let e = is d in omega arith)
      | else-most-needed w ↦
          below_one_more c.args.come.now c.loop-row.row-index c.loop-row.most c.if-most-needed.most c.loop-row.invariant (omega arith) (λ d. let e = is d in omega arith)
    ]
