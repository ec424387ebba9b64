use Rattle.std.proofs.Common.{◌≡◌, ℕ, ◌<◌, ◌++◌, ◌∷◌, [], List, Vec, length, sym, ap, ap₂, subst, ◌∙◌, arith, append_assoc, append-nil}
use Rattle.std.specs.declared.alloc.Global.{Global}
use Rattle.std.proofs.lemmas.Bool.{eqb-true, eqb-false}
use Rattle.std.proofs.lemmas.List.{take-append-drop, nil_from_length}
use Rattle.sorted_pages.specs.Pages.{flat, AllFull}
use Rattle.sorted_pages.proofs.WholeLemmas.{flat_popped, full_append}
use Rattle.sorted_pages.proofs.page_list.paged.Goals as goal

pub loop-left-preserved : goal.loop-left-preserved
loop-left-preserved c =
    let had = c.loop-left.pages.items in
    let left = c.loop-left.left.now in
    let page = c.extend_from_slice.new.self in
    let part = c.split_at.result.0.now in
    let rest = c.split_at.result.1.now in
    let same : page.items ≡ part = c.in_ok-extend_from_slice.ensures.items ∙ ap (λ (v : List ℕ). v ++ part) c.in_ok-page.ensures.items in
    let some = eqb-false _ _ (sym c.loop-left-test.ensures) in
    let long : 0 < length part = omega (arith, some, c.min.ensures, c.split_at.ensures.front_len) in
    record {
      told =
          ap (λ (q : List (Vec ℕ Global)). flat q ++ rest) c.in_ok-push.ensures.items
          ∙ ap (λ (v : List ℕ). v ++ rest) (flat_popped had page)
          ∙ append_assoc (flat had) page.items rest
          ∙ ap (λ (v : List ℕ). flat had ++ v) (ap₂ (λ (u v : List ℕ). u ++ v) (same ∙ c.split_at.ensures.front) c.split_at.ensures.back ∙ take-append-drop c.min.result left)
          ∙ c.loop-left.invariant.told;
      full = subst AllFull (sym c.in_ok-push.ensures.items) (full_append had (page ∷ []) c.loop-left.invariant.full (subst (λ (v : List ℕ). 0 < length v) (sym same) long, tt));
    }

pub returns-clause-flat : goal.returns-clause-flat
returns-clause-flat c =
    let none = nil_from_length c.loop-left.left.now (eqb-true _ _ (sym c.loop-left-test.ensures)) in
    let had = flat c.loop-left.pages.items in
    sym (append-nil had) ∙ ap (λ (v : List ℕ). had ++ v) (sym none) ∙ c.loop-left.invariant.told
