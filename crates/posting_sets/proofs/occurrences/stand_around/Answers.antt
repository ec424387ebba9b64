use Rattle.std.proofs.Common.{◌≡◌, ℕ, ◌+◌, ◌-◌, ◌<◌, ◌||◌, Bool, true, false, List, [], drop, length, get_or, eqb, refl, sym, ap, ◌∙◌, subst, arith}
use Rattle.std.proofs.lemmas.Bool.{eq-eqb}
use Rattle.std.proofs.lemmas.List.{get_or_read}
use Rattle.sorted_pages.specs.Entries.{has}
use Rattle.posting_sets.specs.Starts.{stand_beside}
use Rattle.posting_sets.proofs.StartLemmas.{beside_step, put_back}
use Rattle.posting_sets.proofs.occurrences.stand_around.Goals as goal
use Rattle.posting_sets.proofs.occurrences.stand_around.Goals.{else-index-at-via-then-index-at+else-not-contains, else-index-at-via-else-index-at}

or_true : (a b : Bool) → b ≡ true → (a || b) ≡ true
or_true true b e = refl
or_true false b e = e

pub loop-index-preserved : goal.loop-index-preserved
loop-index-preserved c =
    let old = c.args.lists.now.items in
    let lists = c.loop-index.lists.items in
    let at = c.args.at in
    let i = c.loop-index.index in
    let start = c.args.entry - at in
    let inside : i < length lists = omega (arith, c.loop-index-test.true, c.len-index-end.ensures, ap length c.loop-index.invariant.same) in
    elim c.else-index-at.branch as (λ _. record {
      left : stand_beside at (i + 1) (drop (i + 1) old) start ≡ stand_beside at 0 old start;
      same : c.else-index-at.lists.items ≡ old;
    }) [
      | else-index-at-via-then-index-at+else-not-contains w ↦
          let here = get_or_read lists i w.index_mut.result.now inside w.index_mut.ensures.value [] in
          record {
            left = subst (λ (v : List (List ℕ)). stand_beside at (i + 1) (drop (i + 1) v) start ≡ stand_beside at i (drop i v) start) c.loop-index.invariant.same
                (beside_step at i lists start inside (or_true (eqb i at) _ (ap (λ v. has v (start + i)) (sym here) ∙ sym w.contains.ensures.found ∙ w.if-not-contains.false)))
                ∙ c.loop-index.invariant.left;
            same = ap (λ v. v.items) w.lists-is ∙ put_back lists i w.contains.new.self inside (w.contains.ensures.list ∙ here) ∙ c.loop-index.invariant.same;
          }
      | else-index-at-via-else-index-at w ↦ record {
        left = subst (λ (v : List (List ℕ)). stand_beside at (i + 1) (drop (i + 1) v) start ≡ stand_beside at i (drop i v) start) c.loop-index.invariant.same
            (beside_step at i lists start inside (ap (λ b. b || has (get_or lists i []) (start + i)) (eq-eqb i at w.if-index-at.false)))
            ∙ c.loop-index.invariant.left;
        same = ap (λ v. v.items) w.lists-is ∙ c.loop-index.invariant.same;
      }
    ]
