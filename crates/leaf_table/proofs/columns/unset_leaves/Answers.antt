use Rattle.std.proofs.Common.{◌≡◌, ◌<◌, length, get_or, rules, arith, ◌∙◌}
use Rattle.std.specs.Vec.{with_items}
use Rattle.std.proofs.lemmas.List.{with_items_is}
use Rattle.leaf_table.proofs.ColumnLemmas.{column_is, others_set, unset_more}
use Rattle.leaf_table.proofs.columns.unset_leaves.Goals as goal

pub loop-column-preserved : goal.loop-column-preserved
loop-column-preserved c =
    let columns = c.loop-column.column-items in
    let at = c.loop-column.column-index in
    let was = get_or columns at c.column-item.result in
    let items : (with_items was c.unset.new.column).items ≡ c.unset.new.column = with_items_is was c.unset.new.column (search rules) in
    let within : at < length columns = omega (arith, c.loop-column-test.true, c.loop-column.auto.column-items) in
    record {
      told = unset_more columns at c.args.id.0 (with_items was c.unset.new.column) c.unset.new.column within items c.unset.ensures.told
          c.loop-column.invariant.told;
      others = λ path d off.
          others_set columns at c.args.id.0 (with_items was c.unset.new.column) within c.as_mut_slice.result.now c.unset.new.column
          (c.as_mut_slice.ensures.value ∙ column_is columns at c.column-item.result within) items c.unset.ensures.others path d off
          ∙ c.loop-column.invariant.others path d off;
    }
