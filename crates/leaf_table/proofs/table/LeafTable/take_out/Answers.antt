use Rattle.std.proofs.Common.{None, rules, arith, length-set, ◌∙◌}
use Rattle.leaf_table.proofs.ChangeLemmas.{one_goes, none_goes}
use Rattle.leaf_table.proofs.ColumnLemmas.{row_put}
use Rattle.leaf_table.proofs.table.LeafTable.take_out.Goals.{then-id-len, else-id-len}
use Rattle.leaf_table.proofs.table.LeafTable.take_out.Goals as goal

pub loop-id-preserved : goal.loop-id-preserved
loop-id-preserved c =
    let gone = c.args.gone.now in
    let i = c.loop-id.id-index in
    let start = c.self.inside.rows.rows in
    let rows = c.loop-id.self-inside.rows.rows in
    elim c.if-id-len.branch [
      | then-id-len w ↦ rw w.self-inside-is (rw w.take_out.ensures.rows (record {
        each = one_goes gone i (record { 0 = 0 }) start rows c.loop-id-test.true c.loop-id.invariant.each (omega arith);
        rows = length-set rows _ None ∙ c.loop-id.invariant.rows;
        room = w.take_out.ensures.room ∙ c.loop-id.invariant.room;
        columns = row_put c.loop-id.self-inside.columns w.as_mut_slice.result.now w.unset_leaves.new.columns rows _ None
            (search rules) w.as_mut_slice.ensures.value (omega arith) c.loop-id.invariant.columns w.unset_leaves.ensures.told w.unset_leaves.ensures.others;
      }))
      | else-id-len w ↦ rw w.self-inside-is (record {
        each = none_goes gone i (record { 0 = 0 }) start rows c.loop-id-test.true c.loop-id.invariant.each (omega arith);
        rows = c.loop-id.invariant.rows;
        room = c.loop-id.invariant.room;
        columns = c.loop-id.invariant.columns;
      })
    ]
