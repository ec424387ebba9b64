-- Lists whose documents are kept as sets.
use Rattle.std.proofs.Common.{◌≡◌, ℕ, Bool, true, false, ◌&&◌, ◌||◌, List, filter, Result, Ok, Err, refl, ap, ◌∙◌}
use Rattle.std.specs.Result.{IfOk, OnOk}
use Rattle.doc_sets.specs.SetView.{SetView}
use Rattle.doc_sets.specs.Sets.{has, intersection, union}
use Rattle.doc_sets.specs.Membership.{AreByMembers}
use Rattle.facet_index.specs.Places.{has_document}
use Rattle.facet_index.proofs.TestLemmas.{filter_same}

pub kept_answer : {E : Type 0} (kept list ids : List ℕ) → ((d : ℕ) → has kept d ≡ has_document d list) → (r : Result SetView E)
    → IfOk r (λ set. set.ids ≡ intersection ids kept) → IfOk r (λ set. set.ids ≡ filter (λ d. has_document d list) ids)
kept_answer kept list ids each (Ok set) e = e ∙ filter_same (has kept) (λ d. has_document d list) ids each
kept_answer kept list ids each (Err error) e = tt

pub kept_added : {T E : Type 0} → AreByMembers → (kept list ids docs old new : List ℕ) → ((d : ℕ) → has kept d ≡ has_document d list)
    → docs ≡ intersection ids kept → (r : Result T E) → OnOk r (new ≡ union docs old)
    → OnOk r ((d : ℕ) → has new d ≡ ((has_document d list && has ids d) || has old d))
kept_added members kept list ids docs old new each made (Ok t) e = λ d.
    ap (λ xs. has xs d) e ∙ members.union docs old d
    ∙ ap (λ b. b || has old d)
    (ap (λ xs. has xs d) made ∙ members.intersection ids kept d ∙ ap (λ b. has ids d && b) (each d) ∙ swap (has ids d) (has_document d list))
  where
    swap : (a b : Bool) → (a && b) ≡ (b && a)
    swap true true = refl
    swap true false = refl
    swap false true = refl
    swap false false = refl
kept_added members kept list ids docs old new each made (Err error) e = tt
