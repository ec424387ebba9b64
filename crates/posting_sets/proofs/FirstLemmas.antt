-- The documents in which a term occurs at the beginning of a path.
use Rattle.std.proofs.Common.{◌≡◌, ℕ, zero, suc, ◌+◌, Bool, true, false, ◌&&◌, ◌||◌, cond, List, [], ◌∷◌, eqb, leb, Option, None, Some, refl, sym, ap, ap₂, ◌∙◌, arith}
use Rattle.std.specs.List.{filter, list_any}
use Rattle.std.specs.Option.{option_eq}
use Rattle.std.specs.Cmp.{both_ways}
use Rattle.std.proofs.lemmas.Bool.{cond_both, ne_eqb}
use Rattle.search_base.specs.declared.document.Place.{Place}
use Rattle.search_base.specs.Bucket.{bucket_of, log2_up_to}
use Rattle.search_base.specs.Least.{least_by}
use Rattle.search_base.specs.Occurrence.{occurs_at}
use Rattle.search_base.specs.TermView.{TermView}
use Rattle.sorted_pages.specs.Entries.{has, IsIncreasing}
use Rattle.sorted_pages.proofs.SetLemmas.{has-filter, increasing-filter, increasing-same}
use Rattle.postings.specs.Dictionary.{PostingsView}
use Rattle.postings.specs.Documents.{Document, places_of}
use Rattle.posting_sets.specs.declared.number.Number.TheVariants.{First}
use Rattle.posting_sets.specs.Numbers.{least_number, numbered}
use Rattle.posting_sets.specs.Gathered.{place_number, ids_at, has_number, AreOfNumbers}
use Rattle.posting_sets.specs.Beginnings.{AreAtFirst}
use Rattle.posting_sets.proofs.LeastLemmas.{is_some_of, some_is, some_has, least_is, least_has}

-- the bucket of a position is 0 exactly at the beginning
first_bucket : (p : ℕ) → option_eq eqb (cond (eqb p 0) (Some 0) None) (Some 0) ≡ eqb (bucket_of p) 0
first_bucket zero = refl
first_bucket (suc p) = ap (λ b. option_eq eqb (cond b (Some 0) None) (Some 0)) (ne_eqb (suc p) 0 (λ e. omega arith)) ∙ sym (cond_both (leb (suc p) 7) (suc p) (5 + log2_up_to 15 (suc p)) (λ v. eqb v 0 ≡ false)
    (λ _. ne_eqb (suc p) 0 (λ e. omega arith)) (λ _. ne_eqb (5 + log2_up_to 15 (suc p)) 0 (λ e. omega arith)))

module _ (all : List Place) (term : TermView) where
  abbrev bucket_at : Place → Option ℕ
  bucket_at place = cond (occurs_at all term place) (Some (bucket_of place.position)) None

  one_first : (b c d : Bool) (n : ℕ) → c ≡ d → d ≡ eqb n 0 → (b && c) ≡ option_eq eqb (cond b (Some n) None) (Some 0)
  one_first true c d n same is = same ∙ is
  one_first false c d n same is = refl

  any_first : (places : List Place) → list_any (λ place. occurs_at all term place && option_eq eqb (place_number First place) (Some 0)) places ≡ some_has bucket_at places 0
  any_first [] = refl
  any_first (place ∷ places) = ap₂ (λ a b. a || b) (one_first (occurs_at all term place) _ _ (bucket_of place.position) refl (first_bucket place.position)) (any_first places)

  least_first : (places : List Place) → some_has bucket_at places 0 ≡ option_eq eqb (least_by bucket_at places) (Some 0)
  least_first places = both_ways _ _
      (λ h. some_is _ 0 (least_is bucket_at places 0 h (λ m low there. omega arith)))
      (λ h. least_has bucket_at places 0 (is_some_of _ 0 h))

pub first_of_numbers : (documents : List Document) (term : TermView) (ids : List ℕ) → IsIncreasing ids → (sets : List (List ℕ)) (set : List ℕ) → set ≡ ids_at 0 sets → IsIncreasing set
    → ((n id : ℕ) → has (ids_at n sets) id ≡ has_number documents term (place_number First) ids n id)
    → set ≡ numbered documents term (λ place. Some (bucket_of place.position)) ids 0
first_of_numbers documents term ids up sets set is rise are =
    let asks : ℕ → Bool = λ id. option_eq eqb (least_number (λ place. Some (bucket_of place.position)) (places_of id documents) term) (Some 0) in
    increasing-same set (filter asks ids) rise (increasing-filter asks ids up)
    (λ id. ap (λ v. has v id) is ∙ are 0 id
    ∙ ap (λ b. has ids id && b) (any_first (places_of id documents) term (places_of id documents) ∙ least_first (places_of id documents) term (places_of id documents))
    ∙ sym (has-filter asks ids id))

pub are_at_first : (view : PostingsView) (term : TermView) (ids : List ℕ) → IsIncreasing ids → (sets : List (List ℕ)) (set : List ℕ) → set ≡ ids_at 0 sets → IsIncreasing set
    → AreOfNumbers view term (place_number First) ids sets → AreAtFirst view term ids set
are_at_first view term ids up sets set is rise are = λ documents fresh. first_of_numbers documents term ids up sets set is rise (are documents fresh)
