-- The least number of a term's places, in the words of a block's costs.
use Rattle.std.proofs.Common.{◌≡◌, ℕ, Bool, true, false, ◌&&◌, ◌||◌, cond, List, [], ◌∷◌, map, eqb, Option, None, Some, is_some, refl, sym, ap, ap₂, ◌∙◌}
use Rattle.std.specs.List.{filter, list_any, AllByRecursion}
use Rattle.std.specs.Option.{option_eq, unwrap_or}
use Rattle.std.proofs.lemmas.Bool.{cond_both}
use Rattle.search_base.specs.declared.document.Place.{Place}
use Rattle.search_base.specs.Bucket.{bucket_of}
use Rattle.search_base.specs.Least.{lesser, least}
use Rattle.search_base.specs.Occurrence.{occurs_at, occurs}
use Rattle.search_base.specs.TermView.{TermView}
use Rattle.search_base.proofs.LeastLemmas.{least_by-cong, least_by-filter, least-map}
use Rattle.postings.specs.Documents.{Document, places_of}
use Rattle.posting_sets.specs.Numbers.{rank_at, least_number}
use Rattle.posting_sets.specs.Blocks.{AreOfBlocks}

filter_same : (p q : ℕ → Bool) (xs : List ℕ) → ((x : ℕ) → p x ≡ q x) → filter p xs ≡ filter q xs
filter_same p q [] same = refl
filter_same p q (x ∷ xs) same = ap₂ (λ b v. cond b (x ∷ v) v) (same x) (filter_same p q xs same)

-- what holds of the places of each document holds of those of one
all_at : (P : Place → Type 0) (id : ℕ) (documents : List Document) → AllByRecursion (λ document. AllByRecursion P document.places) documents → AllByRecursion P (places_of id documents)
all_at P id [] all = tt
all_at P id (d ∷ ds) all = cond_both (eqb d.id id) d.places (places_of id ds) (AllByRecursion P) (λ _. all.0) (λ _. all_at P id ds all.1)

some_least : (f : Place → ℕ) (test : Place → Bool) (places : List Place) → is_some (least (map f (filter test places))) ≡ list_any test places
some_least f test [] = refl
some_least f test (place ∷ places) =
    by (test place) (filter test places) (some_least f test places)
  where
    some_first : (n : ℕ) (o : Option ℕ) → is_some (lesser (Some n) o) ≡ true
    some_first n None = refl
    some_first n (Some m) = refl

    by : (b : Bool) (rest : List Place) → is_some (least (map f rest)) ≡ list_any test places → is_some (least (map f (cond b (place ∷ rest) rest))) ≡ (b || list_any test places)
    by true rest again = some_first (f place) (least (map f rest))
    by false rest again = again

is_number : (o : Option ℕ) (n : ℕ) → option_eq eqb o (Some n) ≡ (is_some o && eqb (unwrap_or o 0) n)
is_number None n = refl
is_number (Some m) n = refl

by_costs : (number : Place → Option ℕ) (f : Place → ℕ) (term : TermView) (places : List Place) (n : ℕ) → AllByRecursion (λ place. number place ≡ Some (f place)) places
    → option_eq eqb (least_number number places term) (Some n) ≡ (occurs places term && eqb (unwrap_or (least (map f (filter (occurs_at places term) places))) 0) n)
by_costs number f term places n all =
    let test = occurs_at places term in
    let same : least_number number places term ≡ least (map f (filter test places)) =
    least_by-cong (λ place. number place ≡ Some (f place)) (λ place. cond (test place) (number place) None) (λ place. cond (test place) (Some (f place)) None)
    (λ place e. ap (λ o. cond (test place) o None) e) places all
    ∙ sym (least_by-filter (λ place. Some (f place)) test places) ∙ sym (least-map f (filter test places)) in
    ap (λ o. option_eq eqb o (Some n)) same ∙ is_number (least (map f (filter test places))) n
    ∙ ap (λ b. b && eqb (unwrap_or (least (map f (filter test places))) 0) n) (some_least f test places)

all_of : (number : Place → Option ℕ) (f : Place → ℕ) → ((place : Place) → number place ≡ Some (f place)) → (places : List Place) → AllByRecursion (λ place. number place ≡ Some (f place)) places
all_of number f is [] = tt
all_of number f is (place ∷ places) = (is place, all_of number f is places)

pub are_of_blocks : AreOfBlocks
are_of_blocks = record {
  rank = λ ranks documents have term universe n.
      filter_same _ _ universe (λ id.
      by_costs (λ place. rank_at ranks place.path.0) (λ place. place.rank) term (places_of id documents) n
      (all_at (λ place. rank_at ranks place.path.0 ≡ Some place.rank) id documents have));
  bucket = λ documents term universe n.
      filter_same _ _ universe (λ id.
      by_costs (λ place. Some (bucket_of place.position)) (λ place. bucket_of place.position) term (places_of id documents) n
      (all_of (λ place. Some (bucket_of place.position)) (λ place. bucket_of place.position) (λ place. refl) (places_of id documents)));
}
