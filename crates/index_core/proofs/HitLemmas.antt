-- Hits of documents that are seen otherwise, and what holds of all hits.
use Rattle.std.proofs.Common.{◌≡◌, ℕ, suc, ◌==◌, Bool, true, false, cond, List, [], ◌∷◌, ◌++◌, length, map, filter, refl, sym, ap, ◌∙◌}
use Rattle.std.specs.List.{flat_map, AllByRecursion}
use Rattle.std.proofs.lemmas.Bool.{cond_both}
use Rattle.search_base.specs.Hits.{stands_before, place_among, hit_at, hits_of, numbers}

filter-seen : {X Y : Type 0} (f : X → Y) (p : Y → Bool) (xs : List X) → map f (filter (λ x. p (f x)) xs) ≡ filter p (map f xs)
filter-seen f p [] = refl
filter-seen f p (x ∷ xs) = by (p (f x)) (filter-seen f p xs)
  where
    by : (b : Bool) → map f (filter (λ x. p (f x)) xs) ≡ filter p (map f xs) → map f (cond b (x ∷ filter (λ x. p (f x)) xs) (filter (λ x. p (f x)) xs)) ≡ cond b (f x ∷ filter p (map f xs)) (filter p (map f xs))
    by true again = ap (λ v. f x ∷ v) again
    by false again = again

length-seen : {X Y : Type 0} (f : X → Y) (p : Y → Bool) (xs : List X) → length (filter (λ x. p (f x)) xs) ≡ length (filter p (map f xs))
length-seen f p xs = sym (length-map f (filter (λ x. p (f x)) xs)) ∙ ap length (filter-seen f p xs)
  where
    length-map : {X Y : Type 0} (f : X → Y) (xs : List X) → length (map f xs) ≡ length xs
    length-map f [] = refl
    length-map f (x ∷ xs) = ap suc (length-map f xs)

filter-same : {X : Type 0} (p q : X → Bool) → ((x : X) → p x ≡ q x) → (xs : List X) → filter p xs ≡ filter q xs
filter-same p q h [] = refl
filter-same p q h (x ∷ xs) = ap (λ b. cond b (x ∷ filter p xs) (filter p xs)) (h x) ∙ ap (λ v. cond (q x) (x ∷ v) v) (filter-same p q h xs)

map-append : {X Y : Type 0} (f : X → Y) (xs ys : List X) → map f (xs ++ ys) ≡ map f xs ++ map f ys
map-append f [] ys = refl
map-append f (x ∷ xs) ys = ap (λ v. f x ∷ v) (map-append f xs ys)

module _ {K X Y : Type 0} (before : K → K → Bool) (costs : Y → List K) (id : Y → ℕ) (f : X → Y) (all : List X) where
  hit-seen : (k : ℕ) → map f (hit_at before (λ x. costs (f x)) (λ x. id (f x)) all k) ≡ hit_at before costs id (map f all) k
  hit-seen k =
      ap (map f) (filter-same (λ m. place_among before (λ x. costs (f x)) (λ x. id (f x)) all m == k) (λ m. place_among before costs id (map f all) (f m) == k)
      (λ m. ap (λ n. n == k) (length-seen f (λ other. stands_before before costs id other (f m)) all)) all)
      ∙ filter-seen f (λ m. place_among before costs id (map f all) m == k) all

  flat-seen : (ns : List ℕ) → map f (flat_map (hit_at before (λ x. costs (f x)) (λ x. id (f x)) all) ns) ≡ flat_map (hit_at before costs id (map f all)) ns
  flat-seen [] = refl
  flat-seen (n ∷ ns) =
      map-append f (hit_at before (λ x. costs (f x)) (λ x. id (f x)) all n) (flat_map (hit_at before (λ x. costs (f x)) (λ x. id (f x)) all) ns)
      ∙ ap (λ v. v ++ map f (flat_map (hit_at before (λ x. costs (f x)) (λ x. id (f x)) all) ns)) (hit-seen n)
      ∙ ap (λ v. hit_at before costs id (map f all) n ++ v) (flat-seen ns)

  -- the hits of documents that are seen through f
  pub hits-seen : (offset limit : ℕ) → map f (hits_of before (λ x. costs (f x)) (λ x. id (f x)) all offset limit) ≡ hits_of before costs id (map f all) offset limit
  hits-seen offset limit = flat-seen (numbers offset limit)

-- ---- what holds of all documents holds of all hits

all-filter : {X : Type 0} (P : X → Type 0) (p : X → Bool) (xs : List X) → AllByRecursion P xs → AllByRecursion P (filter p xs)
all-filter P p [] h = tt
all-filter P p (x ∷ xs) h = cond_both (p x) (x ∷ filter p xs) (filter p xs) (AllByRecursion P) (λ _. (h.0, all-filter P p xs h.1)) (λ _. all-filter P p xs h.1)

all-join : {X : Type 0} (P : X → Type 0) (xs ys : List X) → AllByRecursion P xs → AllByRecursion P ys → AllByRecursion P (xs ++ ys)
all-join P [] ys h k = k
all-join P (x ∷ xs) ys h k = (h.0, all-join P xs ys h.1 k)

pub all-hits : {K X : Type 0} (before : K → K → Bool) (costs : X → List K) (id : X → ℕ) (P : X → Type 0) (all : List X) (offset limit : ℕ) → AllByRecursion P all → AllByRecursion P (hits_of before costs id all offset limit)
all-hits before costs id P all offset limit h = by (numbers offset limit)
  where
    by : (ns : List ℕ) → AllByRecursion P (flat_map (hit_at before costs id all) ns)
    by [] = tt
    by (n ∷ ns) = all-join P (hit_at before costs id all n) (flat_map (hit_at before costs id all) ns) (all-filter P (λ m. place_among before costs id all m == n) all h) (by ns)
