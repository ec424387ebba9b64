use Rattle.std.proofs.Common.{refl, sym, subst, rules}
use Rattle.std.proofs.lemmas.Int.{to_z-of_z}
use Rattle.leaf_table.specs.Columns.{Tells}
use Rattle.leaf_table.proofs.RowLemmas.{under_some, under_none}
use Rattle.leaf_table.proofs.columns.told.Goals.{in-Some, in_default}
use Rattle.leaf_table.proofs.columns.told.Goals as goal
use mir.Syntax.{w64}
use mir.Val.{SFits, to_z}

pub loop-number-preserved : goal.loop-number-preserved
loop-number-preserved c =
    let leaves = c.args.leaves.now in
    let numbers = c.args.numbers.now in
    let path = c.args.path.0 in
    let i = c.loop-number.number-index in
    let within = c.loop-number-test.true in
    elim c.match-leaf_under.branch [
      | in-Some w ↦
          let fits : SFits w64 w.with_value-cell.result = search rules in
          rw w.cell-is (rw (to_z-of_z w64 w.with_value-cell.result fits)
          (subst (Tells w.with_value-cell.result) (sym (under_some leaves numbers i 0 within path w.in-Some.leaf.now w.in-Some.ensures))
          (w.with_value-cell.ensures _ w.in-Some.leaf.now refl c.loop-number.invariant)))
      | in_default w ↦
          rw w.cell-is (subst (Tells (to_z w64 c.loop-number.cell-bits)) (sym (under_none leaves numbers i 0 within path w.in_default.ensures)) c.loop-number.invariant)
    ]
