-- What is opened on the way to hits depends on the keys of the documents alone.
use Rattle.std.proofs.Common.{◌≡◌, ℕ, zero, suc, ◌+◌, ◌&&◌, Bool, true, false, cond, List, [], ◌∷◌, ◌++◌, length, map, filter, refl, ap, ap₂, ◌∙◌}
use Rattle.std.specs.Prelude.{flat_map, nat_lt, nat_le}
use Rattle.std.specs.List.{list_all, AllByRecursion}
pub use Rattle.rule_buckets.proofs.OpenLemmas.{opens-nothing, opens-none, opens-some, opens-either}
use Rattle.bucket_sort.specs.Classes.{Class, same, with_key, keys_of, having, classes_of, classes_below}
use Rattle.bucket_sort.specs.Hits.{costs, stands_before}
use Rattle.bucket_sort.specs.Trace.{place_of, is_opened, opened_classes}
use Rattle.search_base.specs.Hits.{costs_before}

-- ---- lists

some-pass : {X : Type 0} (P : X → Type 0) (p : X → Bool) (xs : List X) → AllByRecursion P xs → AllByRecursion P (filter p xs)
some-pass P p [] h = tt
some-pass P p (x ∷ xs) h = by (p x) (some-pass P p xs h.1)
  where
    by : (b : Bool) → AllByRecursion P (filter p xs) → AllByRecursion P (cond b (x ∷ filter p xs) (filter p xs))
    by true rest = (h.0, rest)
    by false rest = rest

weaker : {X : Type 0} (P Q : X → Type 0) → ((x : X) → P x → Q x) → (xs : List X) → AllByRecursion P xs → AllByRecursion Q xs
weaker P Q f [] h = tt
weaker P Q f (x ∷ xs) h = (f x h.0, weaker P Q f xs h.1)

all-joined : {X : Type 0} (P : X → Type 0) (xs ys : List X) → AllByRecursion P xs → AllByRecursion P ys → AllByRecursion P (xs ++ ys)
all-joined P [] ys h k = k
all-joined P (x ∷ xs) ys h k = (h.0, all-joined P xs ys h.1 k)

filter-same : {X : Type 0} (p q : X → Bool) (xs : List X) → AllByRecursion (λ x. p x ≡ q x) xs → filter p xs ≡ filter q xs
filter-same p q [] h = refl
filter-same p q (x ∷ xs) h = ap (λ b. cond b (x ∷ filter p xs) (filter p xs)) h.0 ∙ ap (λ ys. cond (q x) (x ∷ ys) ys) (filter-same p q xs h.1)

all-same : {X : Type 0} (p q : X → Bool) (xs : List X) → AllByRecursion (λ x. p x ≡ q x) xs → list_all p xs ≡ list_all q xs
all-same p q [] h = refl
all-same p q (x ∷ xs) h = ap₂ (λ a b. a && b) h.0 (all-same p q xs h.1)

-- ---- documents with the same keys

module _ {K : Type 0} (before : K → K → Bool) (key other : ℕ → ℕ → K) where
  -- a document has the same keys at n levels from one on
  abbrev pub HasSame : ℕ → ℕ → ℕ → Type 0
  HasSame n level d = costs before key n level d ≡ costs before other n level d

  first-same : (n level d : ℕ) → HasSame (suc n) level d → key level d ≡ other level d
  first-same n level d h = cc

  later-same : (n level d : ℕ) → HasSame (suc n) level d → HasSame n (suc level) d
  later-same n level d h = cc

  keys-same : (level : ℕ) (docs : List ℕ) → AllByRecursion (λ d. key level d ≡ other level d) docs → keys_of before (key level) docs ≡ keys_of before (other level) docs
  keys-same level [] h = refl
  keys-same level (d ∷ docs) h = ap₂ (with_key before) h.0 (keys-same level docs h.1)

  having-same : (level : ℕ) (k : K) (docs : List ℕ) → AllByRecursion (λ d. key level d ≡ other level d) docs → having before (key level) k docs ≡ having before (other level) k docs
  having-same level k docs h =
      filter-same (λ d. same before (key level d) k) (λ d. same before (other level d) k) docs (weaker (λ d. key level d ≡ other level d) (λ d. same before (key level d) k ≡ same before (other level d) k) (λ d e. ap (λ j. same before j k) e) docs h)

  -- the class of a key among a parent's documents
  abbrev class_of : (ℕ → ℕ → K) → ℕ → List ℕ → K → Class K
  class_of by level parent k = record { level = level + 1; key = k; docs = having before (by level) k parent; parent = parent }

  classes-same : (level : ℕ) (parent : List ℕ) → AllByRecursion (λ d. key level d ≡ other level d) parent → classes_of before key level parent ≡ classes_of before other level parent
  classes-same level parent h = with_docs (keys_of before (key level) parent) ∙ ap (map (class_of other level parent)) (keys-same level parent h)
    where
      one : (k : K) → class_of key level parent k ≡ class_of other level parent k
      one k = ap (λ (docs : List ℕ). record { level = level + 1; key = k; docs = docs; parent = parent }) (having-same level k parent h)

      with_docs : (ks : List K) → map (class_of key level parent) ks ≡ map (class_of other level parent) ks
      with_docs [] = refl
      with_docs (k ∷ ks) = ap₂ (λ c cs. c ∷ cs) (one k) (with_docs ks)

  -- a class and its parent are of documents with a property
  abbrev IsOf : (ℕ → Type 0) → Class K → Type 0
  IsOf P c = AllByRecursion P c.docs × AllByRecursion P c.parent

  classes-are-of : (P : ℕ → Type 0) (level : ℕ) (parent : List ℕ) → AllByRecursion P parent → AllByRecursion (IsOf P) (classes_of before key level parent)
  classes-are-of P level parent h = over (keys_of before (key level) parent)
    where
      over : (ks : List K) → AllByRecursion (IsOf P) (map (class_of key level parent) ks)
      over [] = tt
      over (k ∷ ks) = ((some-pass P (λ d. same before (key level d) k) parent h, h), over ks)

  below-are-of : (P : ℕ → Type 0) (n level : ℕ) (docs : List ℕ) → AllByRecursion P docs → AllByRecursion (IsOf P) (classes_below before key n level docs)
  below-are-of P zero level docs h = tt
  below-are-of P (suc n) level docs h = over (λ c of. below-are-of P n (suc level) c.docs of.0) (classes_of before key level docs) (classes-are-of P level docs h)
    where
      over : ((c : Class K) → IsOf P c → AllByRecursion (IsOf P) (classes_below before key n (suc level) c.docs)) → (cs : List (Class K)) → AllByRecursion (IsOf P) cs
          → AllByRecursion (IsOf P) (flat_map (λ c. c ∷ classes_below before key n (suc level) c.docs) cs)
      over again [] all = tt
      over again (c ∷ cs) all = (all.0, all-joined (IsOf P) (classes_below before key n (suc level) c.docs) _ (again c all.0) (over again cs all.1))

  below-same : (n level : ℕ) (docs : List ℕ) → AllByRecursion (HasSame n level) docs → classes_below before key n level docs ≡ classes_below before other n level docs
  below-same zero level docs h = refl
  below-same (suc n) level docs h =
      over (λ c of. below-same n (suc level) c.docs of.0) (classes_of before key level docs) (classes-are-of (HasSame n (suc level)) level docs (weaker (HasSame (suc n) level) (HasSame n (suc level)) (later-same n level) docs h))
      ∙ ap (λ cs. flat_map (λ c. c ∷ classes_below before other n (suc level) c.docs) cs) (classes-same level docs (weaker (HasSame (suc n) level) (λ d. key level d ≡ other level d) (first-same n level) docs h))
    where
      over : ((c : Class K) → IsOf (HasSame n (suc level)) c → classes_below before key n (suc level) c.docs ≡ classes_below before other n (suc level) c.docs) → (cs : List (Class K)) → AllByRecursion (IsOf (HasSame n (suc level))) cs
          → flat_map (λ c. c ∷ classes_below before key n (suc level) c.docs) cs ≡ flat_map (λ c. c ∷ classes_below before other n (suc level) c.docs) cs
      over again [] all = refl
      over again (c ∷ cs) all = ap₂ (λ xs ys. c ∷ (xs ++ ys)) (again c all.0) (over again cs all.1)

  stands-same : (n d e : ℕ) → HasSame n 0 d → HasSame n 0 e → stands_before before key n 0 d e ≡ stands_before before other n 0 d e
  stands-same n d e h k = ap₂ (λ xs ys. costs_before before xs ys (nat_lt d e)) h k

  place-same : (n : ℕ) (universe docs : List ℕ) → AllByRecursion (HasSame n 0) universe → AllByRecursion (HasSame n 0) docs → place_of before key n universe docs ≡ place_of before other n universe docs
  place-same n universe docs h k =
      ap length (filter-same (λ o. list_all (stands_before before key n 0 o) docs) (λ o. list_all (stands_before before other n 0 o) docs) universe
      (weaker (HasSame n 0) (λ o. list_all (stands_before before key n 0 o) docs ≡ list_all (stands_before before other n 0 o) docs)
      (λ o s. all-same (stands_before before key n 0 o) (stands_before before other n 0 o) docs (weaker (HasSame n 0) (λ d. stands_before before key n 0 o d ≡ stands_before before other n 0 o d) (λ d t. stands-same n o d s t) docs k)) universe h))

  -- the same classes are opened
  pub opened-same : (n : ℕ) (universe : List ℕ) (offset end : ℕ) → AllByRecursion (HasSame n 0) universe → opened_classes before key n universe offset end ≡ opened_classes before other n universe offset end
  opened-same n universe offset end h =
      filter-same (is_opened before key n universe offset end) (is_opened before other n universe offset end) (classes_below before key n 0 universe)
      (weaker (IsOf (HasSame n 0)) (λ c. is_opened before key n universe offset end c ≡ is_opened before other n universe offset end c)
      (λ c of. ap₂ (λ p q. nat_lt offset end && nat_le 2 (length c.parent) && nat_lt offset (p + length c.parent) && nat_lt q end) (place-same n universe c.parent h of.1) (place-same n universe c.docs h of.0))
      (classes_below before key n 0 universe) (below-are-of (HasSame n 0) n 0 universe h))
      ∙ ap (filter (is_opened before other n universe offset end)) (below-same n 0 universe h)

  -- and none where the window is empty
  pub none-opened : (n : ℕ) (universe : List ℕ) (offset end : ℕ) → nat_lt offset end ≡ false → opened_classes before key n universe offset end ≡ []
  none-opened n universe offset end empty = none (classes_below before key n 0 universe)
    where
      none : (cs : List (Class K)) → filter (is_opened before key n universe offset end) cs ≡ []
      none [] = refl
      none (c ∷ cs) =
          ap (λ b. cond (b && nat_le 2 (length c.parent) && nat_lt offset (place_of before key n universe c.parent + length c.parent) && nat_lt (place_of before key n universe c.docs) end) (c ∷ filter (is_opened before key n universe offset end) cs) (filter (is_opened before key n universe offset end) cs)) empty
          ∙ none cs
