-- Documents that come, from the last one back.
use Rattle.std.proofs.Common.{◌≡◌, ℕ, suc, ◌+◌, ◌-◌, ◌<◌, ◌≤◌, ◌==◌, Bool, true, false, ◌||◌, List, [], ◌∷◌, map, length, drop, get_or, refl, sym, ap, ap₂, ◌∙◌, arith, eqb-true}
use Rattle.std.specs.Prelude.{Result, Ok, Err, IfOk, OnOk}
use Rattle.std.proofs.lemmas.List.{drop_more, drop-map}
use Rattle.std.proofs.lemmas.Bool.{cond-true, cond-false}
use Rattle.search_base.specs.declared.document.DocId.{DocId}
use Rattle.doc_rows.specs.declared.path_use.PathUse.{PathUse}
use Rattle.doc_sets.specs.Membership.{AreByMembers}
use Rattle.doc_sets.specs.Sets.{has, with_id}
use Rattle.doc_store.specs.declared.rows.StoreRow.{StoreRow}
use Rattle.doc_store.specs.Store.{Store, stored, ids_given}
use Rattle.row_index.specs.Documents.{IndexedDocument, has_id}
use Rattle.doc_index.specs.Documents.{indexed}
use Rattle.doc_index.specs.Last.{with_last, AreTheirIds}

pub drop-before : {X : Type 0} (xs : List X) (i : ℕ) (x : X) → 0 < i → i ≤ length xs → x ≡ get_or xs (i - 1) x → drop (i - 1) xs ≡ x ∷ drop i xs
drop-before xs i x some within is =
    let next : (i - 1) + 1 ≡ i = omega arith in
    drop_more xs (i - 1) x (omega arith) ∙ ap₂ (λ y ys. y ∷ ys) (sym is) (ap (λ n. drop n xs) next)

module _ (paths : List (List ℕ)) (uses : List PathUse) (id : ℕ) (r : StoreRow) (come : List IndexedDocument) where
  pub last-new : has_id id come ≡ false → with_last paths uses id r come ≡ indexed paths uses id r.document ∷ come
  last-new none = cond-false _ _ _ none

  pub last-known : has_id id come ≡ true → with_last paths uses id r come ≡ come
  last-known there = cond-true _ _ _ there

  pub ids-new : AreByMembers → (old new : List ℕ) → new ≡ with_id id old → has_id id come ≡ false → AreTheirIds old come → AreTheirIds new (with_last paths uses id r come)
  ids-new law old new is none told q =
      ap (λ set. has set q) is ∙ law.with_id id q old ∙ ap (λ b. (id == q) || b) (told q) ∙ sym (ap (has_id q) (last-new none))

  pub ids-known : AreByMembers → (old new : List ℕ) → new ≡ with_id id old → has_id id come ≡ true → AreTheirIds old come → AreTheirIds new (with_last paths uses id r come)
  ids-known law old new is there told q =
      ap (λ set. has set q) is ∙ law.with_id id q old ∙ ap (λ b. (id == q) || b) (told q) ∙ by (id == q) refl ∙ sym (ap (has_id q) (last-known there))
    where
      by : (b : Bool) → (id == q) ≡ b → ((id == q) || has_id q come) ≡ has_id q come
      by true e = ap (λ b. b || has_id q come) e ∙ sym (ap (λ n. has_id n come) (sym (eqb-true id q e)) ∙ there)
      by false e = ap (λ b. b || has_id q come) e

pub given-length : (rs : List StoreRow) (s : Store) → length (ids_given rs s) ≡ length rs
given-length [] s = refl
given-length (r ∷ rs) s = ap suc (given-length rs (stored r s))

-- ---- results
pub ok-both : {A E : Type 0} (P Q R : A → Type 0) (r : Result A E) → ((x : A) → P x → Q x → R x) → IfOk r P → IfOk r Q → IfOk r R
ok-both P Q R (Ok x) f p q = f x p q
ok-both P Q R (Err e) f p q = tt

pub on-ok : {A E : Type 0} (P Q : Type 0) (r : Result A E) → (P → Q) → OnOk r P → OnOk r Q
on-ok P Q (Ok x) f p = f p
on-ok P Q (Err e) f p = tt

pub map-drop-before : (ids : List DocId) (i : ℕ) → 0 < i → i ≤ length ids
    → drop (i - 1) (map (λ (x : DocId). x.0) ids) ≡ (get_or ids (i - 1) (record { 0 = 0 })).0 ∷ drop i (map (λ (x : DocId). x.0) ids)
map-drop-before ids i some within =
    let next : (i - 1) + 1 ≡ i = omega arith in
    drop-map (λ (x : DocId). x.0) (i - 1) ids ∙ ap (map (λ (x : DocId). x.0)) (drop_more ids (i - 1) (record { 0 = 0 }) (omega arith))
    ∙ ap (λ xs. (get_or ids (i - 1) (record { 0 = 0 })).0 ∷ xs) (sym (drop-map (λ (x : DocId). x.0) ((i - 1) + 1) ids) ∙ ap (λ n. drop n (map (λ (x : DocId). x.0) ids)) next)
