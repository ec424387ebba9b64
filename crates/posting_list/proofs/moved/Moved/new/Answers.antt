use Rattle.std.proofs.Common.{◌≡◌, ◌≤◌, true, take, get_or, sym, subst, ◌∙◌, arith}
use Rattle.std.specs.Bool.{OnTrue}
use Rattle.std.specs.List.{AllByRecursion}
use Rattle.std.proofs.lemmas.List.{get_or_default}
use Rattle.std.proofs.lemmas.Grind.{common_steps}
use Rattle.posting_list.specs.Sets.{path_of, is_first, IsWithin}
use Rattle.posting_list.proofs.SetLemmas.{take_one_more}
use Rattle.posting_list.proofs.MovedLemmas.{one_more, on_any, on_same}
use Rattle.posting_list.proofs.moved.Moved.new.Goals as goal
use Rattle.posting_list.proofs.moved.Moved.new.Goals.{then-first, else-first}

pub loop-entry-preserved : goal.loop-entry-preserved
loop-entry-preserved c =
    let xs = c.args.entries.now in
    let i = c.loop-entry.entry-index in
    let x = get_or xs i 0 in
    let l = c.loop-entry.least in
    let g = c.loop-entry.greatest in
    let f = c.loop-entry.first in
    let k = c.min-least.result in
    let h = c.max-greatest.result in
    let d = c.if-first.first in
    let path : c.path_of-path.result ≡ path_of x = c.path_of-path.ensures in
    let firsts : (f ≡ true → d ≡ true) × OnTrue (is_first x) (d ≡ true) = elim c.if-first.branch [
      | then-first w ↦ ((λ t. w.first-is ∙ t), on_any (d ≡ true) (is_first x) (w.first-is ∙ w.if-first.true))
      | else-first w ↦ ((λ t. absurd (cc)), on_same (is_first x) d (w.first-is ∙ w.is_first-first.ensures))
    ] in
    let low : (k ≤ l) × (k ≤ path_of x) = (omega arith, omega arith) in
    let high : (g ≤ h) × (path_of x ≤ h) = (grind (arith, common_steps), grind (arith, common_steps)) in
    subst (AllByRecursion (IsWithin k h d)) (sym (take_one_more xs i x c.loop-entry-test.true (get_or_default xs i 0 x c.loop-entry-test.true)))
    (one_more l g k h f d low.0 high.0 firsts.0 (take i xs) x c.loop-entry.invariant (low.1, high.1, firsts.1))
