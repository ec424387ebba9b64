use Rattle.std.proofs.Common.{◌<◌, ◌∷◌, Some, length, set, rules, ap, sym, subst, arith}
use Rattle.std.specs.Vec.{with_items}
use Rattle.std.specs.Vec.Iter.{into_iter_items}
use Rattle.search_base.specs.SortKeys.{leaves_under}
use Rattle.leaf_table.specs.Changes.{leaf_count}
use Rattle.leaf_table.specs.Columns.{Tells, cell_at, AreColumns}
use Rattle.leaf_table.proofs.ChangeLemmas.{IsSetting, one_set, next_within}
use Rattle.leaf_table.proofs.ColumnLemmas.{row_put}
use Rattle.leaf_table.proofs.table.LeafTable.put_in.Goals as goal

pub loop-row-preserved : goal.loop-row-preserved
loop-row-preserved c =
    let start = c.self.inside.rows.rows in
    let rows = c.loop-row.self-inside.rows.rows in
    let come = into_iter_items c.into_iter-row-iterator.result in
    let rest = into_iter_items c.next.new.self in
    let row = c.in-Some.row in
    let id = c.row.inside.id.0 in
    let setting : IsSetting start rows come (row ∷ rest) = subst (IsSetting start rows come) c.in-Some.ensures.steps.0 c.loop-row.invariant.2 in
    let within : id < length rows = subst (λ at. at < length rows) (sym (ap (λ r. r.id) c.row.view_is)) (next_within start rows come rest row setting) in
    let count = ap leaf_count c.in-Some.ensures.steps.0 in
    let columns = with_items c.loop-row.self-inside.columns c.set_leaves.new.columns in (
      tt,
      tt,
      subst (λ list. IsSetting start list come rest) (sym c.put_in.ensures.rows) (one_set start rows come rest row setting),
      (let room = c.loop-row.invariant.3 in let more = c.put_in.ensures.room in omega arith),
      subst (λ list. AreColumns columns.items list) (sym c.put_in.ensures.rows)
          (subst (λ r. AreColumns columns.items (set rows r.id (Some r.leaves))) c.row.view_is
          (row_put c.loop-row.self-inside.columns c.as_mut_slice.result.now c.set_leaves.new.columns rows id (Some c.row.inside.leaves.items)
          (search rules) c.as_mut_slice.ensures.value within c.loop-row.invariant.4
          (λ path. subst (λ leaves. Tells (cell_at path id c.set_leaves.new.columns) (leaves_under path leaves)) c.as_slice.ensures.value (c.set_leaves.ensures.told path))
          c.set_leaves.ensures.others)),
    )

pub put_in-requires-clause-rows : goal.put_in-requires-clause-rows
put_in-requires-clause-rows c =
    let start = c.self.inside.rows.rows in
    let rows = c.loop-row.self-inside.rows.rows in
    let come = into_iter_items c.into_iter-row-iterator.result in
    let rest = into_iter_items c.next.new.self in
    next_within start rows come rest c.in-Some.row (subst (IsSetting start rows come) c.in-Some.ensures.steps.0 c.loop-row.invariant.2)

pub put_in-requires-clause-room : goal.put_in-requires-clause-room
put_in-requires-clause-room c =
    let count = ap leaf_count c.in-Some.ensures.steps.0 in
    let room = c.loop-row.invariant.3 in
    omega arith
