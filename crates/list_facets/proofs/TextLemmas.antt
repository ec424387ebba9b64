-- The rows of values, by the documents that have them.
use Rattle.std.proofs.Common.{◌≡◌, ℕ, zero, suc, ◌≤◌, ◌<◌, Bool, true, false, ◌&&◌, ◌||◌, cond, List, [], ◌∷◌, ◌++◌, map, take, length, nat_eq, refl, sym, ap, ap₂, subst, ◌∙◌, arith, append-nil}
use Rattle.std.specs.BTreeMap.{is_at}
use Rattle.std.specs.BTreeSet.{insert_key}
use Rattle.std.specs.Cmp.Lexicographic.{slice_cmp, nat_list_cmp_total}
use Rattle.std.specs.List.{filter, list_any, starts_with, AllByRecursion}
use Rattle.std.proofs.lemmas.Bool.{both_ways, false_from_ne_true}
use Rattle.std.specs.List.Sorted.{IsStrictlySortedBy}
use Rattle.std.specs.Ordering.{is_eq, nat_cmp, match_ordering}
use Rattle.std.specs.declared.cmp.Ordering.{Ordering}
use Rattle.std.specs.declared.cmp.Ordering.TheVariants.{Less, Equal, Greater}
use Rattle.std.proofs.Math.Seq.{take-append_seam}
use Rattle.std.proofs.lemmas.Cmp.{eq_by_cmp_equiv}
use Rattle.std.proofs.lemmas.List.{take-map, length-map}
use Rattle.std.proofs.lemmas.List.Folds.{list_any-append}
use Rattle.std.proofs.lemmas.List.Kept.{IsStrictlySortedBy-filter}
use Rattle.std.proofs.lemmas.Map.Lookups.{exact_bytes, btree_set_from_contains}
use Rattle.std.proofs.lemmas.Map.Text.{is_eq-slice_cmp}
use Rattle.search_base.specs.declared.document.Leaf.{Leaf}
use Rattle.search_base.specs.RowsView.{RowsView}
use Rattle.search_base.specs.SortKeys.{leaves_under}
use Rattle.facet_counts.specs.Counts.{text_of, is_of, leaves_at, values_at, first_shown, shown_of, count_of, count_row}
use Rattle.facet_counts.specs.Order.{in_order}
use Rattle.facet_counts.specs.declared.rows.CountRow.{CountRow}
use Rattle.facet_counts.proofs.InOrder.{in_order-ascends}
use Rattle.list_facets.specs.Rows.{shown_in, has_text, row_if, rows_if, values_asked, rows_asked}
use Rattle.list_facets.specs.declared.query.FacetQuery.{FacetQuery}

-- ---- texts in order

abbrev pub member : List ℕ → List (List ℕ) → Bool
member q texts = list_any (is_at (slice_cmp nat_cmp q)) texts

by_value : (q x : List ℕ) → is_at (slice_cmp nat_cmp q) x ≡ true → q ≡ x
by_value q x h = exact_bytes q x (equal (slice_cmp nat_cmp q x) h)
  where
    equal : (o : Ordering) → is_eq o ≡ true → o ≡ Equal
    equal Less e = absurd (cc)
    equal Equal e = refl
    equal Greater e = absurd (cc)

member_put : (ks : List (List ℕ)) (k q : List ℕ) → member q (insert_key (slice_cmp nat_cmp) ks k) ≡ (is_at (slice_cmp nat_cmp q) k || member q ks)
member_put [] k q = refl
member_put (x ∷ xs) k q = by (slice_cmp nat_cmp k x) refl (member_put xs k q)
  where
    twice : (a b : Bool) → (a || b) ≡ (a || (a || b))
    twice true b = refl
    twice false b = refl

    turned : (a b c : Bool) → (a || (b || c)) ≡ (b || (a || c))
    turned true true c = refl
    turned true false c = refl
    turned false true c = refl
    turned false false c = refl

    by : (o : Ordering) → o ≡ slice_cmp nat_cmp k x → member q (insert_key (slice_cmp nat_cmp) xs k) ≡ (is_at (slice_cmp nat_cmp q) k || member q xs)
        → member q (match_ordering o (k ∷ x ∷ xs) (x ∷ xs) (x ∷ insert_key (slice_cmp nat_cmp) xs k)) ≡ (is_at (slice_cmp nat_cmp q) k || member q (x ∷ xs))
    by Less s later = refl
    by Equal s later = twice (is_at (slice_cmp nat_cmp q) x) (member q xs)
        ∙ ap (λ y. is_at (slice_cmp nat_cmp q) y || member q (x ∷ xs)) (sym (exact_bytes k x (sym s)))
    by Greater s later = ap (λ b. is_at (slice_cmp nat_cmp q) x || b) later
        ∙ turned (is_at (slice_cmp nat_cmp q) x) (is_at (slice_cmp nat_cmp q) k) (member q xs)

member_in_order : (texts : List (List ℕ)) (q : List ℕ) → member q (in_order texts) ≡ member q texts
member_in_order [] q = refl
member_in_order (t ∷ texts) q = member_put (in_order texts) t q ∙ ap (λ b. is_at (slice_cmp nat_cmp q) t || b) (member_in_order texts q)

member_filter : (p : List ℕ → Bool) (texts : List (List ℕ)) (q : List ℕ) → member q (filter p texts) ≡ (p q && member q texts)
member_filter p [] q = by (p q)
  where
    by : (b : Bool) → false ≡ (b && false)
    by true = refl
    by false = refl
member_filter p (x ∷ xs) q = by (p x) (is_at (slice_cmp nat_cmp q) x) refl refl (member_filter p xs q)
  where
    none : (a b : Bool) → a ≡ false → (a && b) ≡ (a && true)
    none a b e = ap (λ v. v && b) e ∙ sym (ap (λ v. v && true) e)

    by : (b same : Bool) → b ≡ p x → same ≡ is_at (slice_cmp nat_cmp q) x → member q (filter p xs) ≡ (p q && member q xs)
        → member q (cond b (x ∷ filter p xs) (filter p xs)) ≡ (p q && (same || member q xs))
    by true true s e later = ap (λ v. v || member q (filter p xs)) (sym e) ∙ sym (ap (λ v. v && true) (ap p (by_value q x (sym e)) ∙ sym s))
    by true false s e later = ap (λ v. v || member q (filter p xs)) (sym e) ∙ later
    by false true s e later = later ∙ none (p q) (member q xs) (ap p (by_value q x (sym e)) ∙ sym s)
    by false false s e later = later

-- a leaf of the text
leaf_member : (q : List ℕ) (leaves : List Leaf) → list_any (is_of q) leaves ≡ member q (map (λ leaf. text_of leaf.value) leaves)
leaf_member q [] = refl
leaf_member q (x ∷ xs) = ap₂ (λ a b. a || b)
    (sym (is_eq-slice_cmp (text_of x.value) q) ∙ (eq_by_cmp_equiv nat_list_cmp_total).symm (text_of x.value) q) (leaf_member q xs)

rows_are : (path : ℕ) (documents : List RowsView) (texts : List (List ℕ)) → rows_if path documents texts
    ≡ map (count_row path documents) (filter (λ q. list_any (is_of q) (leaves_at path documents)) texts)
rows_are path documents [] = refl
rows_are path documents (t ∷ ts) = by (list_any (is_of t) (leaves_at path documents)) (rows_are path documents ts)
  where
    rest : List (List ℕ)
    rest = filter (λ q. list_any (is_of q) (leaves_at path documents)) ts

    by : (b : Bool) → rows_if path documents ts ≡ map (count_row path documents) (filter (λ q. list_any (is_of q) (leaves_at path documents)) ts)
        → cond b (count_row path documents t ∷ []) [] ++ rows_if path documents ts
        ≡ map (count_row path documents) (cond b (t ∷ filter (λ q. list_any (is_of q) (leaves_at path documents)) ts) (filter (λ q. list_any (is_of q) (leaves_at path documents)) ts))
    by true later = ap (λ xs. count_row path documents t ∷ xs) later
    by false later = later

-- ---- the values that a query asks for

module _ (query : FacetQuery) (documents : List RowsView) where
  abbrev values : List (List ℕ)
  values = values_at query.path.0 documents

  abbrev has_leaf : List ℕ → Bool
  has_leaf q = list_any (is_of q) (leaves_at query.path.0 documents)

  abbrev begins_so : List ℕ → Bool
  begins_so q = starts_with nat_eq q query.prefix

  abbrev row_of : List ℕ → CountRow
  row_of = count_row query.path.0 documents

  -- texts in order that begin so are the values asked for, as far as documents have them
  values_are : (texts : List (List ℕ)) → IsStrictlySortedBy (slice_cmp nat_cmp) texts
      → ((q : List ℕ) → has_leaf q ≡ true → begins_so q ≡ true → member q texts ≡ true) → ((q : List ℕ) → member q texts ≡ true → begins_so q ≡ true)
      → filter has_leaf texts ≡ values_asked query documents
  values_are texts sorted all begin = btree_set_from_contains nat_list_cmp_total
      (record { keys = filter has_leaf texts }) (record { keys = values_asked query documents })
      (IsStrictlySortedBy-filter (slice_cmp nat_cmp) _ texts sorted)
      (IsStrictlySortedBy-filter (slice_cmp nat_cmp) _ values (in_order-ascends (map (λ leaf. text_of leaf.value) (leaves_at query.path.0 documents))))
      (λ q. member_filter has_leaf texts q
      ∙ by q (has_leaf q) (begins_so q) refl refl
      ∙ ap (λ b. begins_so q && b) (leaf_member q (leaves_at query.path.0 documents)
      ∙ sym (member_in_order (map (λ leaf. text_of leaf.value) (leaves_at query.path.0 documents)) q))
      ∙ sym (member_filter begins_so values q)) exact_bytes
    where
      by : (q : List ℕ) (has so : Bool) → has ≡ has_leaf q → so ≡ begins_so q → (has_leaf q && member q texts) ≡ (begins_so q && has_leaf q)
      by q true true s t = ap₂ (λ u v. u && v) (sym s) (all q (sym s) (sym t)) ∙ sym (ap₂ (λ u v. u && v) (sym t) (sym s))
      by q true false s t = ap₂ (λ u v. u && v) (sym s) (false_from_ne_true (member q texts) (λ inside. both_ways (begins_so q) (sym t) (begin q inside)))
          ∙ sym (ap₂ (λ u v. u && v) (sym t) (sym s))
      by q false true s t = ap (λ u. u && member q texts) (sym s) ∙ sym (ap₂ (λ u v. u && v) (sym t) (sym s))
      by q false false s t = ap (λ u. u && member q texts) (sym s) ∙ sym (ap₂ (λ u v. u && v) (sym t) (sym s))

  pub rows_of_texts : (texts : List (List ℕ)) → IsStrictlySortedBy (slice_cmp nat_cmp) texts
      → ((q : List ℕ) → has_leaf q ≡ true → begins_so q ≡ true → member q texts ≡ true) → ((q : List ℕ) → member q texts ≡ true → begins_so q ≡ true)
      → take query.most (rows_if query.path.0 documents texts) ≡ rows_asked query documents
  rows_of_texts texts sorted all begin =
      ap (take query.most) (rows_are query.path.0 documents texts ∙ ap (map row_of) (values_are texts sorted all begin))
      ∙ take-map row_of query.most (values_asked query documents)

  -- the rows of values that begin so
  rows_begin : (xs : List (List ℕ)) → filter (λ row. begins_so row.value) (map row_of xs) ≡ map row_of (filter begins_so xs)
  rows_begin [] = refl
  rows_begin (x ∷ xs) = by (begins_so x) (rows_begin xs)
    where
      by : (b : Bool) → filter (λ row. begins_so row.value) (map row_of xs) ≡ map row_of (filter begins_so xs)
          → cond b (row_of x ∷ filter (λ row. begins_so row.value) (map row_of xs)) (filter (λ row. begins_so row.value) (map row_of xs))
          ≡ map row_of (cond b (x ∷ filter begins_so xs) (filter begins_so xs))
      by true later = ap (λ ys. row_of x ∷ ys) later
      by false later = later

  -- of the rows of all values, those asked for; they are all where they are fewer than were allowed
  pub asked_of_all : (most : ℕ) (rows : List CountRow) → rows ≡ map row_of (take most values) → length rows < most
      → take query.most (filter (λ row. begins_so row.value) rows) ≡ rows_asked query documents
  asked_of_all most rows are few =
      ap (λ xs. take query.most (filter (λ row. begins_so row.value) xs)) (are ∙ ap (map row_of) (all_of most values fewer))
      ∙ ap (take query.most) (rows_begin values)
      ∙ take-map row_of query.most (values_asked query documents)
    where
      fewer : length (take most values) < most
      fewer = subst (λ (n : ℕ). n < most) (ap length are ∙ length-map (take most values) row_of) few

      all_of : (n : ℕ) (xs : List (List ℕ)) → length (take n xs) < n → take n xs ≡ xs
      all_of zero xs h = absurd (omega arith)
      all_of (suc n) [] h = refl
      all_of (suc n) (x ∷ xs) h = ap (λ ys. x ∷ ys) (all_of n xs (omega arith))

-- what holds of each text holds of a member
pub member_has : (p : List ℕ → Bool) (texts : List (List ℕ)) (q : List ℕ) → AllByRecursion (λ t. p t ≡ true) texts → member q texts ≡ true → p q ≡ true
member_has p [] q all inside = absurd (cc)
member_has p (t ∷ texts) q all inside = by (is_at (slice_cmp nat_cmp q) t) refl inside (member_has p texts q all.1)
  where
    by : (b : Bool) → b ≡ is_at (slice_cmp nat_cmp q) t → (is_at (slice_cmp nat_cmp q) t || member q texts) ≡ true → (member q texts ≡ true → p q ≡ true) → p q ≡ true
    by true s h later = ap p (by_value q t (sym s)) ∙ all.0
    by false s h later = later (sym (ap (λ v. v || member q texts) (sym s)) ∙ h)

-- all texts begin as the empty one
pub all_begin : (texts : List (List ℕ)) → filter (λ t. starts_with nat_eq t []) texts ≡ texts
all_begin [] = refl
all_begin (t ∷ texts) = ap (λ xs. t ∷ xs) (all_begin texts)

-- so many rows are enough
pub enough_rows : (most : ℕ) (found rest whole : List CountRow) → found ++ rest ≡ whole → length found ≤ most → most ≤ length found
    → found ≡ take most whole
enough_rows most found rest whole are few many =
    let same : most ≡ length found = omega arith in
    sym (take-append_seam found rest) ∙ ap₂ take (sym same) are

-- and so are all
pub all_rows : (most : ℕ) (found rest whole : List CountRow) → found ++ rest ≡ whole → length found ≤ most → rest ≡ []
    → found ≡ take most whole
all_rows most found rest whole are few none = by most found few ∙ ap (take most) (sym (append-nil found) ∙ ap (λ xs. found ++ xs) (sym none) ∙ are)
  where
    by : (n : ℕ) (xs : List CountRow) → length xs ≤ n → xs ≡ take n xs
    by zero [] h = refl
    by zero (x ∷ xs) h = absurd (omega arith)
    by (suc n) [] h = refl
    by (suc n) (x ∷ xs) h = ap (λ ys. x ∷ ys) (by n xs (omega arith))

-- ---- a value, by the documents that have it

module _ (path : ℕ) (text : List ℕ) (rows : ℕ → RowsView) where
  abbrev pub having : List ℕ → List ℕ
  having ids = filter (λ id. has_text path text (rows id)) ids

  abbrev some_leaf : List ℕ → Bool
  some_leaf ids = list_any (is_of text) (leaves_at path (map rows ids))

  pub any_having : (ids : List ℕ) → some_leaf ids ≡ list_any (λ id. has_text path text (rows id)) ids
  any_having [] = refl
  any_having (d ∷ ds) = list_any-append (is_of text) (leaves_under path (rows d).leaves) (leaves_at path (map rows ds))
      ∙ ap (λ b. has_text path text (rows d) || b) (any_having ds)

  pub none_having : (ids : List ℕ) → having ids ≡ [] → list_any (λ id. has_text path text (rows id)) ids ≡ false
  none_having [] h = refl
  none_having (d ∷ ds) h = by (has_text path text (rows d)) h (none_having ds)
    where
      by : (b : Bool) → cond b (d ∷ having ds) (having ds) ≡ [] → (having ds ≡ [] → list_any (λ id. has_text path text (rows id)) ds ≡ false)
          → (b || list_any (λ id. has_text path text (rows id)) ds) ≡ false
      by true h later = absurd (cc)
      by false h later = later h

  one_having : (ids : List ℕ) (id : ℕ) (others : List ℕ) → having ids ≡ id ∷ others → list_any (λ d. has_text path text (rows d)) ids ≡ true
  one_having [] id others h = absurd (cc)
  one_having (d ∷ ds) id others h = by (has_text path text (rows d)) h (one_having ds id others)
    where
      by : (b : Bool) → cond b (d ∷ having ds) (having ds) ≡ id ∷ others → (having ds ≡ id ∷ others → list_any (λ e. has_text path text (rows e)) ds ≡ true)
          → (b || list_any (λ e. has_text path text (rows e)) ds) ≡ true
      by true h later = refl
      by false h later = later h

  count_is : (ids : List ℕ) → count_of path (map rows ids) text ≡ length (having ids)
  count_is [] = refl
  count_is (d ∷ ds) = by (has_text path text (rows d)) (count_is ds)
    where
      by : (b : Bool) → count_of path (map rows ds) text ≡ length (having ds)
          → length (cond b (rows d ∷ filter (λ r. has_text path text r) (map rows ds)) (filter (λ r. has_text path text r) (map rows ds)))
          ≡ length (cond b (d ∷ having ds) (having ds))
      by true later = ap suc later
      by false later = later

  -- what passes first among two lists
  shown_first : (xs ys : List Leaf) → first_shown (filter (is_of text) (xs ++ ys))
      ≡ cond (list_any (is_of text) xs) (first_shown (filter (is_of text) xs)) (first_shown (filter (is_of text) ys))
  shown_first [] ys = refl
  shown_first (x ∷ xs) ys = by (is_of text x) (shown_first xs ys)
    where
      by : (b : Bool) → first_shown (filter (is_of text) (xs ++ ys))
          ≡ cond (list_any (is_of text) xs) (first_shown (filter (is_of text) xs)) (first_shown (filter (is_of text) ys))
          → first_shown (cond b (x ∷ filter (is_of text) (xs ++ ys)) (filter (is_of text) (xs ++ ys)))
          ≡ cond (b || list_any (is_of text) xs) (first_shown (cond b (x ∷ filter (is_of text) xs) (filter (is_of text) xs))) (first_shown (filter (is_of text) ys))
      by true later = refl
      by false later = later

  shown_is : (ids : List ℕ) (id : ℕ) (others : List ℕ) → having ids ≡ id ∷ others → shown_of path (map rows ids) text ≡ shown_in path text (rows id)
  shown_is [] id others h = absurd (cc)
  shown_is (d ∷ ds) id others h =
      shown_first (leaves_under path (rows d).leaves) (leaves_at path (map rows ds)) ∙ by (has_text path text (rows d)) h (shown_is ds id others)
    where
      by : (b : Bool) → cond b (d ∷ having ds) (having ds) ≡ id ∷ others
          → (having ds ≡ id ∷ others → shown_of path (map rows ds) text ≡ shown_in path text (rows id))
          → cond b (shown_in path text (rows d)) (shown_of path (map rows ds) text) ≡ shown_in path text (rows id)
      by true h later = ap (λ e. shown_in path text (rows e)) (let same : d ≡ id = cc in same)
      by false h later = later h

  pub no_row : (ids : List ℕ) → having ids ≡ [] → [] ≡ row_if path (map rows ids) text
  no_row ids h = sym (ap (λ b. cond b (count_row path (map rows ids) text ∷ []) []) (any_having ids ∙ none_having ids h))

  pub one_row : (ids : List ℕ) (id : ℕ) (others value shown : List ℕ) (count : ℕ) → having ids ≡ id ∷ others → value ≡ text → shown ≡ shown_in path text (rows id)
      → count ≡ length (id ∷ others) → record { value = value; shown = shown; count = count } ∷ [] ≡ row_if path (map rows ids) text
  one_row ids id others value shown count h is spelled many =
      ap (λ (v : List ℕ). record { value = v; shown = shown; count = count } ∷ []) is
      ∙ ap (λ (s : List ℕ). record { value = text; shown = s; count = count } ∷ []) (spelled ∙ sym (shown_is ids id others h))
      ∙ ap (λ (n : ℕ). record { value = text; shown = shown_of path (map rows ids) text; count = n } ∷ []) (many ∙ ap length (sym h) ∙ sym (count_is ids))
      ∙ sym (ap (λ b. cond b (count_row path (map rows ids) text ∷ []) []) (any_having ids ∙ one_having ids id others h))
