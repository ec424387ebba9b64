-- The entry that comes next.
use Rattle.std.proofs.Common.{◌≡◌, ℕ, ◌+◌, ◌/◌, ◌^◌, ◌<◌, ◌≤◌, arith, Bool, true, false, not, ◌&&◌, ◌||◌, ◌==◌, cond, List, [], ◌∷◌, ◌++◌, Option, None, Some, map, refl, sym, ap, ap₂, subst, ◌∙◌, ◌⊎◌, inl, inr}
use Rattle.std.specs.Ordering.{is_lt, is_le, nat_cmp, ordering_then, MatchOrdering}
use Rattle.std.proofs.lemmas.Cmp.{ranked}
use Rattle.std.specs.declared.cmp.Ordering.{Ordering}
use Rattle.std.specs.declared.cmp.Ordering.TheVariants.{Less, Equal, Greater}
use Rattle.std.specs.List.{filter, filter_map, cons_option, list_any, AllByRecursion}
use Rattle.std.specs.Option.{option_map, is_some}
use Rattle.std.specs.Str.{bytes_eq}
use Rattle.std.proofs.lemmas.Bool.{eq-eqb, eqb-true}
use Rattle.search_base.specs.declared.cost_key.CostKey.{CostKey}
use Rattle.search_base.specs.declared.document.Leaf.{Leaf}
use Rattle.search_base.specs.declared.document.MarkKind.TheVariants.{Exists, Null, Empty}
use Rattle.search_base.specs.declared.value.FacetValue.{FacetValue}
use Rattle.search_base.specs.declared.value.FacetValue.TheVariants as facet
use Rattle.search_base.specs.CostOrder.{before, IsStrictOrder}
use Rattle.search_base.specs.SortKeys.{leaves_under, sooner, first_by}
use Rattle.postings.specs.Dictionary.{PostingsView, word_cmp, list_at, some_list}
use Rattle.facet_keys.specs.Keys.{Facet, leaf, mark, least, greatest, counted, spelling, key_bytes, facet_bytes, IsNarrowValue, IsNarrowFacet, IsNarrow}
use Rattle.facet_keys.specs.Values.{end_value, end_under, is_end_of}
use Rattle.facet_keys.specs.Laws.{AreApart, AreInOrder}
use Rattle.facet_keys.proofs.ValueLemmas.{end_of_is}
use Rattle.facet_index.specs.declared.sorts.Start.{Start}
use Rattle.facet_index.specs.LeavesView.{LeavesView}
use Rattle.facet_index.specs.Batches.{document_at}
use Rattle.facet_index.specs.Ends.{value_before, values_under, first_value, end_facet, ends_of}
use Rattle.facet_index.specs.Counted.{counted_of}
use Rattle.facet_index.specs.Places.{leaf_facets, mark_facets, facets_of, key_of, IsNarrowDocument, IsIndexOf, has_document}
use Rattle.facet_index.specs.Sorts.{sort_entry, entry_at, sort_key, sort_keys_of, same, is_after, next_of, is_under}
use Rattle.facet_index.specs.Starts.{entry_of, start_of, word_order, is_from, is_had, IsNext, HasNoneFrom}
use Rattle.facet_index.proofs.TestLemmas.{both, any_map}
use Rattle.facet_index.proofs.KeyLemmas.{has_key, has_at, bytes_same, value_itself}
use Rattle.facet_index.proofs.RangeLemmas.{leaves_narrow, first_part, facet_between}
use Rattle.facet_index.proofs.SortLemmas.{entry_is, entries_before, entries_same, entry_same, keys_up_to, key_from, after_is, if_from}
use Rattle.facet_index.proofs.SortDocLemmas.{has_entry}

-- ---- lists

-- the element stands in the list
abbrev pub Stands : {X : Type 0} → X → List X → Type 0
Stands {X} x xs = (p : X → Bool) → p x ≡ true → list_any p xs ≡ true

or_true : (b : Bool) → (b || true) ≡ true
or_true true = refl
or_true false = refl

stands_first : {X : Type 0} (x : X) (xs : List X) → Stands x (x ∷ xs)
stands_first x xs = λ p h. ap (λ b. b || list_any p xs) h

stands_later : {X : Type 0} (x y : X) (xs : List X) → Stands x xs → Stands x (y ∷ xs)
stands_later x y xs in_xs = λ p h. ap (λ b. p y || b) (in_xs p h) ∙ or_true (p y)

-- an element that passes, with what is known of it
abbrev pub Found : {X : Type 0} → (X → Type 0) → (X → Bool) → List X → Type 0
Found {X} P p xs = (x : X) × (P x × (p x ≡ true) × Stands x xs)

pub found_in : {X : Type 0} (P : X → Type 0) (p : X → Bool) (xs : List X) → AllByRecursion P xs → list_any p xs ≡ true → Found P p xs
found_in P p [] all h = absurd (cc)
found_in P p (x ∷ xs) all h = by (p x) refl h (found_in P p xs all.1)
  where
    by : (b : Bool) → b ≡ p x → (b || list_any p xs) ≡ true → (list_any p xs ≡ true → Found P p xs) → Found P p (x ∷ xs)
    by true s h later = (x, (all.0, sym s, stands_first x xs))
    by false s h later = let found = later h in (found.0, (found.1.0, found.1.1, stands_later found.0 x xs found.1.2))

all_first : {X : Type 0} (P : X → Type 0) (test : X → X → Bool) (xs : List X) (y : X) → AllByRecursion P xs → first_by test xs ≡ Some y → P y
all_first P test [] y all h = absurd (cc)
all_first {X} P test (x ∷ xs) y all h = by (first_by test xs) refl h (all_first P test xs)
  where
    by : (o : Option X) → o ≡ first_by test xs → Some (sooner test x o) ≡ Some y → ((z : X) → AllByRecursion P xs → first_by test xs ≡ Some z → P z) → P y
    by None s h later = subst P (let e : x ≡ y = cc in e) all.0
    by (Some z) s h later = pick (test z x) h
      where
        pick : (b : Bool) → Some (cond b z x) ≡ Some y → P y
        pick true e = subst P (let same : z ≡ y = cc in same) (later z all.1 (sym s))
        pick false e = subst P (let same : x ≡ y = cc in same) all.0

-- the first of a list
pub first_of_all : IsStrictOrder before → (xs : List CostKey) (k : CostKey) → list_any (same k) xs ≡ true
    → AllByRecursion (λ j. before j k ≡ false) xs → first_by before xs ≡ Some k
first_of_all order [] k any all = absurd (cc)
first_of_all order (x ∷ xs) k any all = by (order.total x k) (first_of_all order xs k)
  where
    here : (o : Option CostKey) → o ≡ first_by before xs → Some (sooner before k o) ≡ Some k
    here None s = refl
    here (Some y) s = ap (λ b. Some (cond b y k)) (all_first (λ j. before j k ≡ false) before xs y all.1 (sym s))

    by : (x ≡ k) ⊎ ((before x k ≡ true) ⊎ (before k x ≡ true)) → (list_any (same k) xs ≡ true → AllByRecursion (λ j. before j k ≡ false) xs
        → first_by before xs ≡ Some k) → Some (sooner before x (first_by before xs)) ≡ Some k
    by (inl e) later = ap (λ z. Some (sooner before z (first_by before xs))) e ∙ here (first_by before xs) refl
    by (inr (inl e)) later = absurd (cc (sym e ∙ all.0))
    by (inr (inr e)) later =
        ap (λ o. Some (sooner before x o)) (later (sym (ap (λ b. (not b && not (before x k)) || list_any (same k) xs) e) ∙ any) all.1)
        ∙ ap (λ b. Some (cond b k x)) e

-- whether there is an entry that passes both tests
abbrev if_both : (CostKey → Bool) → (CostKey → Bool) → Option CostKey → Bool
if_both q p None = false
if_both q p (Some k) = q k && p k

kept_says : {X : Type 0} (f : X → Option CostKey) (q p : CostKey → Bool) (xs : List X)
    → list_any p (filter q (filter_map f xs)) ≡ list_any (λ x. if_both q p (f x)) xs
kept_says f q p [] = refl
kept_says {X} f q p (x ∷ xs) = one (f x) (kept_says f q p xs)
  where
    one : (o : Option CostKey) → list_any p (filter q (filter_map f xs)) ≡ list_any (λ x. if_both q p (f x)) xs
        → list_any p (filter q (cons_option o (filter_map f xs))) ≡ (if_both q p o || list_any (λ x. if_both q p (f x)) xs)
    one None later = later
    one (Some k) later = by (q k)
      where
        by : (b : Bool) → list_any p (cond b (k ∷ filter q (filter_map f xs)) (filter q (filter_map f xs)))
            ≡ ((b && p k) || list_any (λ x. if_both q p (f x)) xs)
        by true = ap (λ b. p k || b) later
        by false = later

-- what a list of entries keeps
kept_any : {X : Type 0} (f : X → Option CostKey) (q p : CostKey → Bool) (xs : List X) (x : X) (k : CostKey) → Stands x xs → f x ≡ Some k → q k ≡ true → p k ≡ true
    → list_any p (filter q (filter_map f xs)) ≡ true
kept_any f q p xs x k in_xs is passes wanted =
    kept_says f q p xs ∙ in_xs (λ y. if_both q p (f y)) (ap (if_both q p) is ∙ ap₂ (λ a b. a && b) passes wanted)

kept_all : {X : Type 0} (P : CostKey → Type 0) (f : X → Option CostKey) (q : CostKey → Bool) (xs : List X)
    → ((x : X) (k : CostKey) → Stands x xs → f x ≡ Some k → q k ≡ true → P k) → AllByRecursion P (filter q (filter_map f xs))
kept_all P f q [] each = tt
kept_all {X} P f q (x ∷ xs) each = one (f x) refl (kept_all P f q xs (λ y k in_xs. each y k (stands_later y x xs in_xs)))
  where
    one : (o : Option CostKey) → o ≡ f x → AllByRecursion P (filter q (filter_map f xs))
        → AllByRecursion P (filter q (cons_option o (filter_map f xs)))
    one None s later = later
    one (Some j) s later = by (q j) refl
      where
        by : (b : Bool) → b ≡ q j → AllByRecursion P (cond b (j ∷ filter q (filter_map f xs)) (filter q (filter_map f xs)))
        by true t = (each x j (stands_first x xs) (sym s) (sym t), later)
        by false t = later

none_kept : {X : Type 0} (f : X → Option CostKey) (q : CostKey → Bool) (xs : List X)
    → ((x : X) (k : CostKey) → Stands x xs → f x ≡ Some k → q k ≡ true → ⊥) → None ≡ first_by before (filter q (filter_map f xs))
none_kept f q xs never = by (filter q (filter_map f xs)) (kept_all (λ k. ⊥) f q xs never)
  where
    by : (ks : List CostKey) → AllByRecursion (λ k. ⊥) ks → None ≡ first_by before ks
    by [] h = refl
    by (k ∷ ks) h = absurd h.0

-- ---- documents and words

values_narrow : (path : ℕ) (leaves : List Leaf) → AllByRecursion (λ x. IsNarrow x.path.0 (leaf x.value)) leaves → AllByRecursion IsNarrowValue (values_under path leaves)
values_narrow path [] all = tt
values_narrow path (x ∷ xs) all = by (x.path.0 == path) (values_narrow path xs all.1)
  where
    by : (b : Bool) → AllByRecursion IsNarrowValue (values_under path xs)
        → AllByRecursion IsNarrowValue (map (λ y. y.value) (cond b (x ∷ leaves_under path xs) (leaves_under path xs)))
    by true later = (all.0.1, later)
    by false later = later

-- the value that comes first in a document is narrow
first_narrow : (up : Bool) (path : ℕ) (document : LeavesView) (v : FacetValue) → IsNarrowDocument document
    → first_value up path document.leaves ≡ Some v → IsNarrowFacet (end_facet up v)
first_narrow up path document v narrow is = end_narrow up
    (all_first IsNarrowValue (value_before up) (values_under path document.leaves) v
    (values_narrow path document.leaves (leaves_narrow document.leaves (first_part (leaf_facets document.leaves) (mark_facets document.marks ++ (ends_of document.leaves ++ counted_of document.leaves)) narrow))) is)
  where
    end_narrow : (up : Bool) → IsNarrowValue v → IsNarrowFacet (end_facet up v)
    end_narrow true h = h
    end_narrow false h = h

-- a word with a list is a key of a facet of a document
record OfFacet (word : List ℕ) : Type 0 where
  facet : ℕ × Facet
  fits : IsNarrow facet.0 facet.1
  key : key_of facet ≡ word

of_facet : (view : PostingsView) (documents : List LeavesView) (word list : List ℕ) → IsIndexOf view documents → some_list (list_at word view) ≡ Some list
    → OfFacet word
of_facet view documents word list index here = by (list_at word view) refl here
  where
    made : (id : ℕ) → Found IsNarrowDocument (λ x. (x.id == id) && has_key word x) documents → OfFacet word
    made id x =
        let f = found_in (λ f. IsNarrow f.0 f.1) (λ f. bytes_eq (key_of f) word) (facets_of x.0) x.1.0
        (sym (any_map key_of (λ k. bytes_eq k word) (facets_of x.0)) ∙ (both (x.0.id == id) (has_key word x.0) x.1.1).1) in
        record { facet = f.0; fits = f.1.0; key = bytes_same (key_of f.0) word f.1.1 }

    by : (entries : List ℕ) → entries ≡ list_at word view → some_list entries ≡ Some list → OfFacet word
    by [] s h = absurd (cc)
    by (e ∷ es) s h = made (e / 2 ^ 32) (found_in IsNarrowDocument (λ x. (x.id == e / 2 ^ 32) && has_key word x) documents index.narrow
        (sym (has_at view documents word (e / 2 ^ 32) index)
        ∙ ap (has_document (e / 2 ^ 32)) (sym s)
        ∙ ap (λ b. b || has_document (e / 2 ^ 32) es) (eq-eqb (e / 2 ^ 32) (e / 2 ^ 32) refl)))

-- ---- the key of the value of a document

entry_some : (up : Bool) (path : ℕ) (leaves : List Leaf) (k : CostKey) → sort_entry up path leaves ≡ Some k
    → (v : FacetValue) × (first_value up path leaves ≡ Some v) × (k ≡ entry_of up v)
entry_some up path leaves k h = by (first_value up path leaves) refl (sym (entry_is up path leaves) ∙ h)
  where
    by : (o : Option FacetValue) → o ≡ first_value up path leaves → option_map (entry_of up) o ≡ Some k
        → (v : FacetValue) × (first_value up path leaves ≡ Some v) × (k ≡ entry_of up v)
    by None s h = absurd (cc)
    by (Some v) s h = (v, sym s, let e : entry_of up v ≡ k = cc in sym e)

-- the value of an entry that a document has
record OfValue (up : Bool) (k : CostKey) : Type 0 where
  value : FacetValue
  fits : IsNarrowFacet (end_facet up value)
  is : k ≡ entry_of up value

of_value : (up : Bool) (path : ℕ) (documents : List LeavesView) (d : ℕ) (k : CostKey) → AllByRecursion IsNarrowDocument documents
    → sort_key up path documents d ≡ Some k → OfValue up k
of_value up path [] d k narrow is = absurd (cc)
of_value up path (x ∷ xs) d k narrow is = by (x.id == d) is (of_value up path xs d k narrow.1)
  where
    by : (b : Bool) → entry_at up path (cond b (Some x) (document_at d xs)) ≡ Some k → (sort_key up path xs d ≡ Some k → OfValue up k) → OfValue up k
    by true is later =
        let v = entry_some up path x.leaves k is in
        record { value = v.0; fits = first_narrow up path x v.0 narrow.0 v.1; is = v.2 }
    by false is later = later is

-- what is known of an entry of a document of the universe that comes after another
record Comes (up : Bool) (path : ℕ) (start : Start) (view : PostingsView) (universe : List ℕ) (k : CostKey) : Type 0 where
  value : FacetValue
  fits : IsNarrow path (end_facet up value)
  is : k ≡ entry_of up value
  had : is_had universe view (key_bytes path (end_facet up value)) ≡ true
  from : is_from up start.behind (key_bytes path (end_facet up start.value)) (key_bytes path (end_facet up value)) ≡ true

comes : AreApart → AreInOrder → (up : Bool) (path : ℕ) (last : Option CostKey) (start : Start) (view : PostingsView) (documents : List LeavesView) (universe : List ℕ)
    → IsNarrow path (end_facet up start.value) → Some start ≡ start_of up last → IsIndexOf view documents
    → (d : ℕ) (k : CostKey) → Stands d universe → sort_key up path documents d ≡ Some k → is_after last k ≡ true → Comes up path start view universe k
comes apart order up path last start view documents universe fits begins index d k in_universe is after =
    let v = of_value up path documents d k index.narrow is in
    let narrow_v : IsNarrow path (end_facet up v.value) = (fits.0, v.fits) in
    record {
      value = v.value;
      fits = narrow_v;
      is = v.is;
      had = in_universe (λ e. has_document e (list_at (key_bytes path (end_facet up v.value)) view))
          (has_entry apart up view documents path v.value d narrow_v index
          ∙ ap (is_under (entry_of up v.value)) (is ∙ ap Some v.is) ∙ entries_same up v.value v.value ∙ value_itself v.value);
      from = key_from order up path start v.value fits narrow_v
          ∙ ap (λ o. if_from up o v.value) begins ∙ sym (after_is up last v.value v.fits)
          ∙ ap (is_after last) (sym v.is) ∙ after;
    }

-- ---- between two keys of values that come first

abbrev kind : Facet → ℕ
kind (mark Exists) = 0
kind (mark Null) = 1
kind (mark Empty) = 2
kind (leaf (facet.Number n)) = 3
kind (leaf (facet.Text t)) = 4
kind (least (facet.Number n)) = 5
kind (least (facet.Text t)) = 6
kind (greatest (facet.Number n)) = 8
kind (greatest (facet.Text t)) = 7
kind (counted t) = 9
kind (spelling t s) = 10

bytes_of : (f : Facet) → (rest : List ℕ) × (facet_bytes f ≡ kind f ∷ rest)
bytes_of (mark Exists) = ([], refl)
bytes_of (mark Null) = ([], refl)
bytes_of (mark Empty) = ([], refl)
bytes_of (leaf (facet.Number n)) = (_, refl)
bytes_of (leaf (facet.Text t)) = (_, refl)
bytes_of (least (facet.Number n)) = (_, refl)
bytes_of (least (facet.Text t)) = (_, refl)
bytes_of (greatest (facet.Number n)) = (_, refl)
bytes_of (greatest (facet.Text t)) = (_, refl)
bytes_of (counted t) = (_, refl)
bytes_of (spelling t s) = (_, refl)

heads_up_to : (x y : ℕ) (xs ys : List ℕ) → is_le (word_cmp (x ∷ xs) (y ∷ ys)) ≡ true → x ≤ y
heads_up_to x y xs ys h = by (nat_cmp x y) (ranked x y (nat_cmp x y) refl) h
  where
    by : (o : Ordering) → MatchOrdering o (x < y) (x ≡ y) (y < x) → is_le (ordering_then o (word_cmp xs ys)) ≡ true → x ≤ y
    by Less r h = omega arith
    by Equal r h = omega arith
    by Greater r h = absurd (cc)

kinds_up_to : (f g : Facet) → is_le (word_cmp (facet_bytes f) (facet_bytes g)) ≡ true → kind f ≤ kind g
kinds_up_to f g h =
    let a = bytes_of f in
    let b = bytes_of g in
    heads_up_to (kind f) (kind g) a.0 b.0 (ap₂ (λ xs ys. is_le (word_cmp xs ys)) (sym a.1) (sym b.1) ∙ h)

abbrev lowest : Bool → ℕ
lowest true = 5
lowest false = 7

end_kind : (up : Bool) (v : FacetValue) → (lowest up ≤ kind (end_facet up v)) × (kind (end_facet up v) ≤ lowest up + 1)
end_kind true (facet.Number n) = (omega arith, omega arith)
end_kind true (facet.Text t) = (omega arith, omega arith)
end_kind false (facet.Number n) = (omega arith, omega arith)
end_kind false (facet.Text t) = (omega arith, omega arith)

-- a facet is the value that comes first, or none
abbrev IsValue : Bool → Facet → Type 0
IsValue up g = (v : FacetValue) × (g ≡ end_facet up v)

of_kind : (up : Bool) (g : Facet) → lowest up ≤ kind g → kind g ≤ lowest up + 1 → IsValue up g
of_kind true (mark Exists) a b = absurd (omega arith)
of_kind true (mark Null) a b = absurd (omega arith)
of_kind true (mark Empty) a b = absurd (omega arith)
of_kind true (leaf (facet.Number n)) a b = absurd (omega arith)
of_kind true (leaf (facet.Text t)) a b = absurd (omega arith)
of_kind true (least v) a b = (v, refl)
of_kind true (greatest (facet.Number n)) a b = absurd (omega arith)
of_kind true (greatest (facet.Text t)) a b = absurd (omega arith)
of_kind true (counted t) a b = absurd (omega arith)
of_kind true (spelling t s) a b = absurd (omega arith)
of_kind false (mark Exists) a b = absurd (omega arith)
of_kind false (mark Null) a b = absurd (omega arith)
of_kind false (mark Empty) a b = absurd (omega arith)
of_kind false (leaf (facet.Number n)) a b = absurd (omega arith)
of_kind false (leaf (facet.Text t)) a b = absurd (omega arith)
of_kind false (least (facet.Number n)) a b = absurd (omega arith)
of_kind false (least (facet.Text t)) a b = absurd (omega arith)
of_kind false (greatest v) a b = (v, refl)
of_kind false (counted t) a b = absurd (omega arith)
of_kind false (spelling t s) a b = absurd (omega arith)

value_between : (up : Bool) (a b : FacetValue) (g : Facet) → kind (end_facet up a) ≤ kind g → kind g ≤ kind (end_facet up b) → IsValue up g
value_between up a b g low high =
    let from_a = end_kind up a in
    let to_b = end_kind up b in
    of_kind up g (omega arith) (omega arith)

between : AreInOrder → (up : Bool) (path : ℕ) (a b : FacetValue) (x : ℕ × Facet) → IsNarrow path (end_facet up a) → IsNarrow path (end_facet up b) → IsNarrow x.0 x.1
    → is_le (word_order up (key_bytes path (end_facet up a)) (key_of x)) ≡ true → is_le (word_order up (key_of x) (key_bytes path (end_facet up b))) ≡ true
    → (x.0 ≡ path) × IsValue up x.1
between order true path a b x p q narrow low high =
    let inside = both (x.0 == path) _ (sym (facet_between order path (least a) (least b) p q x.0 x.1 narrow) ∙ ap₂ (λ u v. u && v) low high) in
    let ends = both (is_le (word_cmp (facet_bytes (least a)) (facet_bytes x.1))) (is_le (word_cmp (facet_bytes x.1) (facet_bytes (least b)))) inside.1 in
    (eqb-true x.0 path inside.0, value_between true a b x.1 (kinds_up_to (least a) x.1 ends.0) (kinds_up_to x.1 (least b) ends.1))
between order false path a b x p q narrow low high =
    let inside = both (x.0 == path) _ (sym (facet_between order path (greatest b) (greatest a) q p x.0 x.1 narrow) ∙ ap₂ (λ u v. u && v) high low) in
    let ends = both (is_le (word_cmp (facet_bytes (greatest b)) (facet_bytes x.1))) (is_le (word_cmp (facet_bytes x.1) (facet_bytes (greatest a)))) inside.1 in
    (eqb-true x.0 path inside.0, value_between false b a x.1 (kinds_up_to (greatest b) x.1 ends.0) (kinds_up_to x.1 (greatest a) ends.1))

-- which value a facet is, or that it is none
value_case : (up : Bool) (g : Facet) → IsValue up g ⊎ ((end_value up g ≡ None) × (IsValue up g → ⊥))
value_case true (mark k) = inr (refl, λ v. let e = v.1 in cc)
value_case true (leaf w) = inr (refl, λ v. let e = v.1 in cc)
value_case true (least w) = inl (w, refl)
value_case true (greatest w) = inr (refl, λ v. let e = v.1 in cc)
value_case true (counted t) = inr (refl, λ v. let e = v.1 in cc)
value_case true (spelling t s) = inr (refl, λ v. let e = v.1 in cc)
value_case false (mark k) = inr (refl, λ v. let e = v.1 in cc)
value_case false (leaf w) = inr (refl, λ v. let e = v.1 in cc)
value_case false (least w) = inr (refl, λ v. let e = v.1 in cc)
value_case false (greatest w) = inl (w, refl)
value_case false (counted t) = inr (refl, λ v. let e = v.1 in cc)
value_case false (spelling t s) = inr (refl, λ v. let e = v.1 in cc)

end_value_is : (up : Bool) (v : FacetValue) → end_value up (end_facet up v) ≡ Some v
end_value_is true v = refl
end_value_is false v = refl

-- ---- the entry that comes next

lt_le : (o : Ordering) → is_lt o ≡ true → is_le o ≡ true
lt_le Less h = refl
lt_le Equal h = absurd (cc)
lt_le Greater h = absurd (cc)

from_le : (up behind : Bool) (start word : List ℕ) → is_from up behind start word ≡ true → is_le (word_order up start word) ≡ true
from_le up true start word h = lt_le (word_order up start word) h
from_le up false start word h = h

differ : false ≡ true → ⊥
differ h = cc

not_false : (b : Bool) → not b ≡ true → b ≡ false
not_false true h = absurd (cc)
not_false false h = refl

-- a document of the universe that has the key of a value has its entry
record Has (up : Bool) (path : ℕ) (documents : List LeavesView) (universe : List ℕ) (v : FacetValue) : Type 0 where
  document : ℕ
  stands : Stands document universe
  entry : sort_key up path documents document ≡ Some (entry_of up v)

has_value : AreApart → IsStrictOrder before → (up : Bool) (path : ℕ) (view : PostingsView) (documents : List LeavesView) (universe : List ℕ) (v : FacetValue)
    → IsNarrow path (end_facet up v) → IsIndexOf view documents → is_had universe view (key_bytes path (end_facet up v)) ≡ true → Has up path documents universe v
has_value apart strict up path view documents universe v fits index had =
    let d = found_in (λ e. Unit {0}) (λ e. has_document e (list_at (key_bytes path (end_facet up v)) view)) universe (all_known universe) had in
    record {
      document = d.0;
      stands = d.1.2;
      entry = by (sort_key up path documents d.0) (sym (has_entry apart up view documents path v d.0 fits index) ∙ d.1.1);
    }
  where
    all_known : (xs : List ℕ) → AllByRecursion (λ e. Unit {0}) xs
    all_known [] = tt
    all_known (x ∷ xs) = (tt, all_known xs)

    by : (o : Option CostKey) → is_under (entry_of up v) o ≡ true → o ≡ Some (entry_of up v)
    by None h = absurd (cc)
    by (Some k) h = ap Some (entry_same strict k (entry_of up v) h)

found_value : AreApart → AreInOrder → IsStrictOrder before → (up : Bool) (path : ℕ) (last : Option CostKey) (start : Start) (view : PostingsView)
    (documents : List LeavesView) (universe word : List ℕ) (v : FacetValue) → IsNarrow path (end_facet up start.value) → IsNarrow path (end_facet up v)
    → Some start ≡ start_of up last → IsIndexOf view documents → IsNext up start.behind path (key_bytes path (end_facet up start.value)) universe view word
    → word ≡ key_bytes path (end_facet up v) → is_had universe view word ≡ true → Some (entry_of up v) ≡ next_of (sort_keys_of up path documents universe) last
found_value apart order strict up path last start view documents universe word v fits narrow begins index next word_is had =
    let x = has_value apart strict up path view documents universe v narrow index (ap (is_had universe view) (sym word_is) ∙ had) in
    sym (first_of_all strict _ (entry_of up v)
    (kept_any (sort_key up path documents) (is_after last) (same (entry_of up v)) universe x.document (entry_of up v) x.stands x.entry after
    (entries_same up v v ∙ value_itself v))
    (kept_all (λ j. before j (entry_of up v) ≡ false) (sort_key up path documents) (is_after last) universe
    (λ d k in_universe has later.
    let c = comes apart order up path last start view documents universe fits begins index d k in_universe has later in
    ap (λ j. before j (entry_of up v)) c.is ∙ entries_before up c.value v
    ∙ not_false (value_before up c.value v)
    (sym (keys_up_to order up path v c.value narrow c.fits) ∙ ap (λ w. is_le (word_order up w (key_bytes path (end_facet up c.value)))) (sym word_is)
    ∙ next.next (key_bytes path (end_facet up c.value)) c.from c.had))))
  where
    after : is_after last (entry_of up v) ≡ true
    after = after_is up last v narrow.1 ∙ ap (λ o. if_from up o v) (sym begins)
        ∙ sym (key_from order up path start v fits narrow)
        ∙ ap (is_from up start.behind (key_bytes path (end_facet up start.value))) (sym word_is) ∙ next.from

no_word_between : AreApart → AreInOrder → (up : Bool) (path : ℕ) (last : Option CostKey) (start : Start) (view : PostingsView)
    (documents : List LeavesView) (universe word : List ℕ) (f : OfFacet word) → IsNarrow path (end_facet up start.value)
    → Some start ≡ start_of up last → IsIndexOf view documents → IsNext up start.behind path (key_bytes path (end_facet up start.value)) universe view word
    → ((f.facet.0 ≡ path) × IsValue up f.facet.1 → ⊥) → None ≡ next_of (sort_keys_of up path documents universe) last
no_word_between apart order up path last start view documents universe word f fits begins index next never =
    none_kept (sort_key up path documents) (is_after last) universe
    (λ d k in_universe has later.
    let c = comes apart order up path last start view documents universe fits begins index d k in_universe has later in
    never (between order up path start.value c.value f.facet fits c.fits f.fits
    (from_le up start.behind (key_bytes path (end_facet up start.value)) (key_of f.facet)
    (ap (is_from up start.behind (key_bytes path (end_facet up start.value))) f.key ∙ next.from))
    (ap (λ w. is_le (word_order up w (key_bytes path (end_facet up c.value)))) f.key
    ∙ next.next (key_bytes path (end_facet up c.value)) c.from c.had)))

-- what the key of a value says of each facet that it may be the key of
abbrev pub IsEndOf : Bool → ℕ → List ℕ → Option FacetValue → Type 0
IsEndOf up path word found = (other : ℕ) (facet : Facet) → IsNarrow other facet → word ≡ key_bytes other facet → found ≡ end_under up path other facet

pub next_found : AreApart → AreInOrder → IsStrictOrder before → (up : Bool) (path : ℕ) (last : Option CostKey) (start : Start) (view : PostingsView)
    (universe word : List ℕ) (found : Option FacetValue) → IsNarrow path (end_facet up start.value)
    → Some start ≡ start_of up last → IsNext up start.behind path (key_bytes path (end_facet up start.value)) universe view word → IsEndOf up path word found
    → (documents : List LeavesView) → IsIndexOf view documents → option_map (entry_of up) found ≡ next_of (sort_keys_of up path documents universe) last
next_found apart order strict up path last start view universe word found fits begins next is documents index =
    let f = of_facet view documents word next.list index next.here in
    by f (f.facet.0 == path) refl (value_case up f.facet.1) (is f.facet.0 f.facet.1 f.fits (sym f.key))
  where
    -- a word at which the going ends though it is the key of a value is had
    had : (a b : Bool) → (a || not b) ≡ true → b ≡ true → a ≡ true
    had true b h e = refl
    had false true h e = absurd (cc)
    had false false h e = absurd (cc)

    by : (f : OfFacet word) (here : Bool) → here ≡ (f.facet.0 == path)
        → IsValue up f.facet.1 ⊎ ((end_value up f.facet.1 ≡ None) × (IsValue up f.facet.1 → ⊥))
        → found ≡ end_under up path f.facet.0 f.facet.1 → option_map (entry_of up) found ≡ next_of (sort_keys_of up path documents universe) last
    by f true s (inl v) e =
        ap (option_map (entry_of up)) (e ∙ under)
        ∙ found_value apart order strict up path last start view documents universe word v.0 fits
        (subst (λ (p : ℕ). IsNarrow p (end_facet up v.0)) at (subst (IsNarrow f.facet.0) v.1 f.fits)) begins index next
        (sym f.key ∙ ap₂ key_bytes at v.1)
        (had (is_had universe view word) (is_end_of up path word) next.stops
        (ap (is_end_of up path) (sym f.key) ∙ end_of_is up path f.facet.0 f.facet.1 f.fits ∙ ap is_some under))
      where
        at : f.facet.0 ≡ path
        at = eqb-true f.facet.0 path (sym s)

        under : end_under up path f.facet.0 f.facet.1 ≡ Some v.0
        under = ap (λ b. cond b (end_value up f.facet.1) None) (sym s) ∙ ap (end_value up) v.1 ∙ end_value_is up v.0
    by f true s (inr none) e =
        ap (option_map (entry_of up)) (e ∙ ap (λ b. cond b (end_value up f.facet.1) None) (sym s) ∙ none.0)
        ∙ no_word_between apart order up path last start view documents universe word f fits begins index next (λ h. none.1 h.1)
    by f false s c e =
        ap (option_map (entry_of up)) (e ∙ ap (λ b. cond b (end_value up f.facet.1) None) (sym s))
        ∙ no_word_between apart order up path last start view documents universe word f fits begins index next
        (λ h. absurd (cc (s ∙ eq-eqb f.facet.0 path h.0)))

pub next_nowhere : AreApart → AreInOrder → (up : Bool) (path : ℕ) (last : Option CostKey) (start : Start) (view : PostingsView) (universe : List ℕ)
    → IsNarrow path (end_facet up start.value) → Some start ≡ start_of up last
    → HasNoneFrom up start.behind (key_bytes path (end_facet up start.value)) universe view
    → (documents : List LeavesView) → IsIndexOf view documents → None ≡ next_of (sort_keys_of up path documents universe) last
next_nowhere apart order up path last start view universe fits begins none documents index =
    none_kept (sort_key up path documents) (is_after last) universe
    (λ d k in_universe has later.
    let c = comes apart order up path last start view documents universe fits begins index d k in_universe has later in
    differ (sym (none (key_bytes path (end_facet up c.value)) c.from) ∙ c.had))

pub next_never : (up : Bool) (path : ℕ) (last : Option CostKey) (view : PostingsView) (universe : List ℕ) → None ≡ start_of up last
    → (documents : List LeavesView) → IsIndexOf view documents → None ≡ next_of (sort_keys_of up path documents universe) last
next_never up path last view universe begins documents index =
    none_kept (sort_key up path documents) (is_after last) universe
    (λ d k in_universe has later.
    let v = of_value up path documents d k index.narrow has in
    differ (ap (λ o. if_from up o v.value) begins ∙ sym (after_is up last v.value v.fits) ∙ ap (is_after last) (sym v.is) ∙ later))
