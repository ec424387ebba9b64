use Rattle.std.proofs.Common.{◌≡◌, length, arith}
use Rattle.serde_json.proofs.Views.{view-Array, view-Object}
use Rattle.doc_values.proofs.Marks.{mark_of_some_items, mark_of_no_members, mark_of_some_members}
use Rattle.doc_values.proofs.rows.second_mark.Goals as goal

pub returns-else-is_empty-2 : goal.returns-else-is_empty-2
returns-else-is_empty-2 c =
    let some : length c.in-Array.items.items ≡ 0 → ⊥ = grind arith in
    rw (c.in-Array.is, view-Array c.in-Array.items) (mark_of_some_items _ some)

pub returns-then-is_empty-3 : goal.returns-then-is_empty-3
returns-then-is_empty-3 c =
    let none : length c.in-Object.members.entries ≡ 0 = grind arith in
    rw (c.in-Object.is, view-Object c.in-Object.members) (mark_of_no_members _ none)

pub returns-else-is_empty-3 : goal.returns-else-is_empty-3
returns-else-is_empty-3 c =
    let some : length c.in-Object.members.entries ≡ 0 → ⊥ = grind arith in
    rw (c.in-Object.is, view-Object c.in-Object.members) (mark_of_some_members _ some)
