use Rattle.std.proofs.Common.{◌≡◌, ◌++◌, [], ◌∷◌, sym, ap, rules, ◌∙◌}
use Rattle.leaf_table.proofs.RowLemmas.{under_some, under_none}
use Rattle.leaf_table.proofs.copies.copy_under.Goals.{in-Some+in_ok-clone+in_ok-push, in_default}
use Rattle.leaf_table.proofs.copies.copy_under.Goals as goal

pub loop-number-preserved : goal.loop-number-preserved
loop-number-preserved c =
    let leaves = c.args.leaves.now in
    let numbers = c.args.numbers.now in
    let path = c.args.path.0 in
    let i = c.loop-number.number-index in
    let within = c.loop-number-test.true in
    elim c.match-leaf_under.branch [
      | in-Some+in_ok-clone+in_ok-push w ↦
          let copied : w.in_ok-clone.field-0 ≡ w.in-Some.leaf.now = search rules in
          rw w.copies-is (w.in_ok-push.ensures.items
          ∙ ap (λ copy. c.loop-number.copies.items ++ copy ∷ []) copied
          ∙ ap (λ copies. copies ++ w.in-Some.leaf.now ∷ []) c.loop-number.invariant
          ∙ sym (under_some leaves numbers i 0 within path w.in-Some.leaf.now w.in-Some.ensures))
      | in_default w ↦
          rw w.copies-is (c.loop-number.invariant ∙ sym (under_none leaves numbers i 0 within path w.in_default.ensures))
    ]
