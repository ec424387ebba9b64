-- What a counter answers is what is counted.
use Rattle.std.proofs.Common.{◌≡◌, ℕ, ◌+◌, ◌-◌, ◌<◌, zero, suc, Bool, true, false, cond, not, ◌&&◌, List, [], ◌∷◌, ◌++◌, length, map, take, Option, Some, None, Ordering, Less, Equal, Greater, refl, sym, ap, ap₂, subst, ◌∙◌, arith, append_assoc}
use Rattle.std.specs.Prelude.{ℤ}
use Rattle.std.specs.BTreeMap.{is_at}
use Rattle.std.specs.Cmp.Lexicographic.{slice_cmp}
use Rattle.std.specs.List.{AllByRecursion, list_all}
use Rattle.std.specs.List.Sorted.{IsStrictlySortedBy}
use Rattle.std.specs.Map.{keys_of, lookup}
use Rattle.std.specs.Option.{is_some, option_map}
use Rattle.std.specs.Ordering.{nat_cmp, is_eq}
use Rattle.std.proofs.lemmas.Bool.{false≢true}
use Rattle.std.proofs.lemmas.Cmp.{nat_list_cmp_total, tied_itself}
use Rattle.std.proofs.lemmas.Map.Lookups.{exact_bytes}
use Rattle.search_base.specs.declared.document.PathId.{PathId}
use Rattle.search_base.specs.RowsView.{RowsView}
use Rattle.facet_counts.specs.declared.counter.Counted.{Counted}
use Rattle.facet_counts.specs.declared.counter.Counter.{Counter}
use Rattle.facet_counts.specs.declared.counter.Tally.{Tally}
use Rattle.facet_counts.specs.declared.rows.CountRow.{CountRow}
use Rattle.facet_counts.specs.declared.rows.FacetPath.{FacetPath}
use Rattle.facet_counts.specs.FacetView.{FacetView}
use Rattle.facet_counts.specs.Counting.{TallyView, CounterView, IsCounted, IsKnown, IsTallyOf, IsTallyAt, IsCounterOf, AreCountsOf, tally_view, counter_view, has_no_path, entry_row, rows_in, stats_in, reply_of}
use Rattle.facet_counts.specs.Counts.{text_of, leaves_at, count_row, count_rows, rows_of, stats_at, both_of, counted}
use Rattle.facet_counts.proofs.InOrder.{in_order-ascends}

abbrev finds : List ℕ → List (List ℕ × Counted) → Option Counted
finds value es = lookup (is_at (slice_cmp nat_cmp value)) es

none-is-some : (o : Option Counted) (c : Counted) → o ≡ None → o ≡ Some c → ⊥
none-is-some o c n h = false≢true (sym (ap is_some n) ∙ ap is_some h)

-- a key that is below all others is none of them
none-above : (es : List (List ℕ × Counted)) (k : List ℕ) → AllByRecursion (λ y. slice_cmp nat_cmp k y ≡ Less) (keys_of es) → finds k es ≡ None
none-above [] k h = refl
none-above (e ∷ es) k h = ap (λ o. cond (is_eq o) (Some e.1) (finds k es)) h.0 ∙ none-above es k h.1

-- ---- rows

module _ (path : ℕ) (documents : List RowsView) where
  abbrev Fits : List ℕ → Counted → Type 0
  Fits value c = entry_row (value, c) ≡ count_row path documents value

  rows-fit : (es : List (List ℕ × Counted)) (most : ℕ) → IsStrictlySortedBy (slice_cmp nat_cmp) (keys_of es) → ((value : List ℕ) (c : Counted) → finds value es ≡ Some c → Fits value c)
      → map entry_row (take most es) ≡ map (count_row path documents) (take most (keys_of es))
  unfolding IsStrictlySortedBy
  rows-fit [] zero sorted h = refl
  rows-fit [] (suc most) sorted h = refl
  rows-fit (e ∷ es) zero sorted h = refl
  rows-fit (e ∷ es) (suc most) sorted h = ap₂ (λ r rs. r ∷ rs) (h e.0 e.1 (ap (λ o. cond (is_eq o) (Some e.1) (finds e.0 es)) (tied_itself nat_list_cmp_total e.0))) (rows-fit es most sorted.1 (λ value c found. h value c (later value c found)))
    where
      later : (value : List ℕ) (c : Counted) → finds value es ≡ Some c → finds value (e ∷ es) ≡ Some c
      later value c found = by (slice_cmp nat_cmp value e.0) refl
        where
          by : (o : Ordering) → slice_cmp nat_cmp value e.0 ≡ o → cond (is_eq (slice_cmp nat_cmp value e.0)) (Some e.1) (finds value es) ≡ Some c
          by Less e' = ap (λ o. cond (is_eq o) (Some e.1) (finds value es)) e' ∙ found
          by Equal e' = absurd (none-is-some (finds value es) c (ap (λ v. finds v es) (exact_bytes value e.0 e') ∙ none-above es e.0 sorted.0) found)
          by Greater e' = ap (λ o. cond (is_eq o) (Some e.1) (finds value es)) e' ∙ found

  abbrev row-of : List ℕ → List ℕ → ℕ → CountRow
  row-of value shown count = record { value = value; shown = shown; count = count }

  fits-known : (value : List ℕ) (c : Counted) → IsCounted path documents value c → Fits value c
  fits-known value c h = ap₂ (row-of value) h.shown h.count

rows-counted : (tally : TallyView) (at : PathId) (documents : List RowsView) (most : ℕ) → IsTallyOf tally at documents → map entry_row (take most tally.entries) ≡ count_rows at.0 most documents
rows-counted tally at documents most h =
    rows-fit at.0 documents tally.entries most (subst (IsStrictlySortedBy (slice_cmp nat_cmp)) (sym h.values) (in_order-ascends (map (λ leaf. text_of leaf.value) (leaves_at at.0 documents))))
    (λ value c found. fits-known at.0 documents value c (subst (IsKnown at.0 documents value) found (h.each value)))
    ∙ ap (λ ks. map (count_row at.0 documents) (take most ks)) h.values

abbrev view-of : List ℕ → List CountRow → Option (ℤ × ℤ) → FacetView
view-of attribute rows stats = record { attribute = attribute; rows = rows; stats = stats }

parts : (most : ℕ) (documents : List RowsView) (tally : Option TallyView) (path : Option PathId) → IsTallyAt tally path documents → (rows_in most tally ≡ rows_of path most documents) × (stats_in tally ≡ stats_at path documents)
parts most documents None None h = (refl, refl)
parts most documents None (Some path) h = absurd h
parts most documents (Some tally) None h = absurd h
parts most documents (Some tally) (Some path) h = (rows-counted tally path documents most h, ap₂ both_of h.least h.greatest)

reply-counted : (most : ℕ) (documents : List RowsView) (counter : CounterView) (asked : FacetPath) → IsCounterOf counter asked documents → reply_of most counter ≡ counted most documents asked
reply-counted most documents counter asked h =
    let both = parts most documents counter.tally asked.path h.tally in
    ap (λ a. view-of a (rows_in most counter.tally) (stats_in counter.tally)) h.attribute ∙ ap₂ (view-of asked.attribute) both.0 both.1

pub all-counted : (most : ℕ) (documents : List RowsView) (counters : List CounterView) (asked : List FacetPath) → AreCountsOf counters asked documents → map (reply_of most) counters ≡ map (counted most documents) asked
all-counted most documents [] [] h = refl
all-counted most documents [] (a ∷ asked) h = absurd h
all-counted most documents (c ∷ counters) [] h = absurd h
all-counted most documents (c ∷ counters) (a ∷ asked) h = ap₂ (λ r rs. r ∷ rs) (reply-counted most documents c a h.0) (all-counted most documents counters asked h.1)

pub replies-mapped : (most : ℕ) (counters : List Counter) → map (λ counter. reply_of most (counter_view counter)) counters ≡ map (reply_of most) (map counter_view counters)
replies-mapped most [] = refl
replies-mapped most (c ∷ counters) = ap (λ rs. reply_of most (counter_view c) ∷ rs) (replies-mapped most counters)

-- ---- a row more

one-more : (most n : ℕ) → n < most → most - n ≡ suc (most - (n + 1))
one-more most n h = omega arith

length-more : (rows : List CountRow) (row : CountRow) → length (rows ++ row ∷ []) ≡ length rows + 1
length-more [] row = refl
length-more (r ∷ rows) row = let again = length-more rows row in omega arith

pub row-more : (rows : List CountRow) (most : ℕ) (entry : List ℕ × Counted) (entries : List (List ℕ × Counted)) → length rows < most
    → (rows ++ entry_row entry ∷ []) ++ map entry_row (take (most - length (rows ++ entry_row entry ∷ [])) entries) ≡ rows ++ map entry_row (take (most - length rows) (entry ∷ entries))
row-more rows most entry entries h =
    append_assoc rows (entry_row entry ∷ []) _
    ∙ ap (λ n. rows ++ entry_row entry ∷ map entry_row (take (most - n) entries)) (length-more rows (entry_row entry))
    ∙ sym (ap (λ n. rows ++ map entry_row (take n (entry ∷ entries))) (one-more most (length rows) h))

-- ---- attributes without a path

no-path : (counter : Counter) (tally : Option Tally) (asked : FacetPath) (documents more : List RowsView) → counter.tally ≡ tally → has_no_path counter ≡ true → IsCounterOf (counter_view counter) asked documents → IsCounterOf (counter_view counter) asked more
no-path counter None asked documents more e none h = record { attribute = h.attribute; tally = subst (λ t. IsTallyAt (option_map tally_view t) asked.path more) (sym e) (by asked.path (subst (λ t. IsTallyAt (option_map tally_view t) asked.path documents) e h.tally)) }
  where
    by : (path : Option PathId) → IsTallyAt None path documents → IsTallyAt None path more
    by None h = tt
    by (Some path) h = absurd h
no-path counter (Some tally) asked documents more e none h = absurd (false≢true (sym (ap (λ t. not (is_some t)) e) ∙ none))

pub no-paths : (counters : List Counter) (asked : List FacetPath) (documents more : List RowsView) → list_all has_no_path counters ≡ true → AreCountsOf (map counter_view counters) asked documents → AreCountsOf (map counter_view counters) asked more
no-paths [] [] documents more none h = tt
no-paths [] (a ∷ asked) documents more none h = absurd h
no-paths (c ∷ counters) [] documents more none h = absurd h
no-paths (c ∷ counters) (a ∷ asked) documents more none h = by (has_no_path c) refl none (λ all. no-paths counters asked documents more all h.1)
  where
    by : (b : Bool) → has_no_path c ≡ b → (b && list_all has_no_path counters) ≡ true → (list_all has_no_path counters ≡ true → AreCountsOf (map counter_view counters) asked more) → AreCountsOf (map counter_view (c ∷ counters)) (a ∷ asked) more
    by true e both again = (no-path c c.tally a documents more refl e h.0, again both)
    by false e both again = absurd (false≢true both)
