-- A tally in the midst of a document: its leaves come one after the other.
use Rattle.std.proofs.Common.{◌≡◌, ℕ, ◌+◌, ◌≤◌, ◌==◌, suc, Bool, true, false, cond, ◌||◌, List, [], ◌∷◌, ◌++◌, length, filter, map, Option, Some, None, refl, sym, ap, ap₂, subst, ◌∙◌, arith, append_assoc, append-nil, rules, true≢false}
use Rattle.std.proofs.lemmas.List.{map-append}
use Rattle.std.specs.Prelude.{bytes_eq}
use Rattle.std.specs.BTreeMap.{keys, get}
use Rattle.std.specs.BTreeSet.{insert_key}
use Rattle.std.specs.Cmp.Lexicographic.{slice_cmp}
use Rattle.std.specs.List.{list_any}
use Rattle.std.specs.Ordering.{nat_cmp}
use Rattle.std.proofs.lemmas.Bool.{cond-true, cond-false, eq-eqb, false≢true}
use Rattle.std.proofs.lemmas.Grind.{flat_map-append}
use Rattle.std.proofs.lemmas.List.Folds.{list_any-append}
use Rattle.std.proofs.lemmas.Map.Text.{is_eq-slice_cmp}
use Rattle.std.proofs.lemmas.Slice.Eq.{bytes_eq-Decides}
use Rattle.search_base.specs.declared.document.Leaf.{Leaf}
use Rattle.search_base.specs.declared.document.PathId.{PathId}
use Rattle.search_base.specs.RowsView.{RowsView}
use Rattle.search_base.specs.SortKeys.{leaves_under, numbers, first_by, is_less, is_greater}
use Rattle.facet_counts.specs.declared.counter.Counted.{Counted}
use Rattle.facet_counts.specs.declared.counter.Tally.{Tally}
use Rattle.facet_counts.specs.Counting.{IsKnown, IsTallyOf, HasLeaf, seen, joined, tally_view}
use Rattle.facet_counts.specs.Counts.{text_of, is_of, leaves_at, count_of, first_shown}
use Rattle.facet_counts.specs.Order.{in_order}
use Rattle.facet_counts.proofs.InOrder.{in_order-behind}
use Rattle.facet_counts.proofs.Lists.{one_if, any-behind, filter-behind, length-behind, filter-none}
use Rattle.facet_counts.proofs.Numbers.{least-of-leaves, greatest-of-leaves}

texts_of : List Leaf → List (List ℕ)
texts_of leaves = map (λ leaf. text_of leaf.value) leaves

-- of a value: all its leaves, how many documents had it before, how many these were, and the leaves of this document
pub record IsCountedAmid (all : List Leaf) (before documents : ℕ) (now : List Leaf) (value : List ℕ) (counted : Counted) : Type 0 where
  pub some : list_any (is_of value) all ≡ true
  pub shown : counted.shown ≡ first_shown (filter (is_of value) all)
  pub count : counted.count ≡ before + one_if (list_any (is_of value) now)
  pub last : (counted.last == suc documents) ≡ list_any (is_of value) now
  pub low : counted.last ≤ suc documents

pub record IsUnknownAmid (all : List Leaf) (before : ℕ) (value : List ℕ) : Type 0 where
  pub none : list_any (is_of value) all ≡ false
  pub new : before ≡ 0

abbrev pub IsKnownAmid : List Leaf → ℕ → ℕ → List Leaf → List ℕ → Option Counted → Type 0
IsKnownAmid all before documents now value None = IsUnknownAmid all before value
IsKnownAmid all before documents now value (Some counted) = IsCountedAmid all before documents now value counted

pub record IsAmid (tally : Tally) (at : PathId) (all : List Leaf) (before : List ℕ → ℕ) (those : ℕ) (now : List Leaf) : Type 0 where
  pub path : tally.path ≡ at
  pub values : keys tally.values ≡ in_order (map (λ leaf. text_of leaf.value) all)
  pub each : (value : List ℕ) → IsKnownAmid all (before value) those now value (get (slice_cmp nat_cmp) tally.values value)
  pub least : tally.least ≡ first_by is_less (numbers all)
  pub greatest : tally.greatest ≡ first_by is_greater (numbers all)
  pub documents : tally.documents ≡ suc those

-- ---- a value, after a leaf

first-stays : (leaves more : List Leaf) (p : Leaf → Bool) → list_any p leaves ≡ true → first_shown (filter p leaves ++ more) ≡ first_shown (filter p leaves)
first-stays [] more p h = absurd (false≢true h)
first-stays (leaf ∷ leaves) more p h = by (p leaf) h (first-stays leaves more p)
  where
    by : (b : Bool) → (b || list_any p leaves) ≡ true → (list_any p leaves ≡ true → first_shown (filter p leaves ++ more) ≡ first_shown (filter p leaves))
        → first_shown (cond b (leaf ∷ filter p leaves) (filter p leaves) ++ more) ≡ first_shown (cond b (leaf ∷ filter p leaves) (filter p leaves))
    by true h again = refl
    by false h again = again h

module _ (all : List Leaf) (before documents : ℕ) (now : List Leaf) (leaf : Leaf) (value : List ℕ) where
  or_no : (b : Bool) → (b || false) ≡ b
  or_no true = refl
  or_no false = refl

  or_yes : (b : Bool) → (b || true) ≡ true
  or_yes true = refl
  or_yes false = refl

  -- another value
  other : is_of value leaf ≡ false → (known : Option Counted) → IsKnownAmid all before documents now value known → IsKnownAmid (all ++ leaf ∷ []) before documents (now ++ leaf ∷ []) value known
  other apart None h = record { none = any-behind (is_of value) all leaf ∙ ap (λ b. list_any (is_of value) all || b) apart ∙ or_no (list_any (is_of value) all) ∙ h.none; new = h.new }
  other apart (Some counted) h = record {
    some = any-behind (is_of value) all leaf ∙ ap (λ b. list_any (is_of value) all || b) apart ∙ or_no (list_any (is_of value) all) ∙ h.some;
    shown = h.shown ∙ ap first_shown (sym (filter-behind (is_of value) all leaf false apart ∙ append-nil (filter (is_of value) all)));
    count = h.count ∙ ap (λ b. before + one_if b) (sym same);
    last = h.last ∙ sym same;
    low = h.low;
  }
    where
      same : list_any (is_of value) (now ++ leaf ∷ []) ≡ list_any (is_of value) now
      same = any-behind (is_of value) now leaf ∙ ap (λ b. list_any (is_of value) now || b) apart ∙ or_no (list_any (is_of value) now)

  -- its own
  own : is_of value leaf ≡ true → (known : Option Counted) → IsKnownAmid all before documents now value known
      → IsKnownAmid (all ++ leaf ∷ []) before documents (now ++ leaf ∷ []) value (Some (seen leaf.shown (suc documents) known))
  own same None h = record {
    some = all_have;
    shown = ap first_shown (sym (filter-behind (is_of value) all leaf true same ∙ ap (λ l. l ++ leaf ∷ []) (filter-none (is_of value) all h.none)));
    count = sym (ap₂ (λ n b. n + one_if b) h.new has);
    last = eq-eqb (suc documents) (suc documents) refl ∙ sym has;
    low = omega arith;
  }
    where
      has : list_any (is_of value) (now ++ leaf ∷ []) ≡ true
      has = any-behind (is_of value) now leaf ∙ ap (λ b. list_any (is_of value) now || b) same ∙ or_yes (list_any (is_of value) now)

      all_have : list_any (is_of value) (all ++ leaf ∷ []) ≡ true
      all_have = any-behind (is_of value) all leaf ∙ ap (λ b. list_any (is_of value) all || b) same ∙ or_yes (list_any (is_of value) all)
  own same (Some counted) h = by (list_any (is_of value) now) h.count h.last
    where
      has : list_any (is_of value) (now ++ leaf ∷ []) ≡ true
      has = any-behind (is_of value) now leaf ∙ ap (λ b. list_any (is_of value) now || b) same ∙ or_yes (list_any (is_of value) now)

      all_have : list_any (is_of value) (all ++ leaf ∷ []) ≡ true
      all_have = any-behind (is_of value) all leaf ∙ ap (λ b. list_any (is_of value) all || b) same ∙ or_yes (list_any (is_of value) all)

      first : counted.shown ≡ first_shown (filter (is_of value) (all ++ leaf ∷ []))
      first = h.shown ∙ sym (ap first_shown (filter-behind (is_of value) all leaf true same) ∙ first-stays all (leaf ∷ []) (is_of value) h.some)

      by : (b : Bool) → counted.count ≡ before + one_if b → (counted.last == suc documents) ≡ b
          → IsCountedAmid (all ++ leaf ∷ []) before documents (now ++ leaf ∷ []) value (seen leaf.shown (suc documents) (Some counted))
      by true count last = subst (IsCountedAmid (all ++ leaf ∷ []) before documents (now ++ leaf ∷ []) value) (sym (cond-true _ _ _ last)) (record {
        some = all_have;
        shown = first;
        count = count ∙ sym (ap (λ b. before + one_if b) has);
        last = last ∙ sym has;
        low = h.low;
      })
      by false count last = subst (IsCountedAmid (all ++ leaf ∷ []) before documents (now ++ leaf ∷ []) value) (sym (cond-false _ _ _ last)) (record {
        some = all_have;
        shown = first;
        count = ap (λ n. n + 1) count ∙ more before ∙ sym (ap (λ b. before + one_if b) has);
        last = eq-eqb (suc documents) (suc documents) refl ∙ sym has;
        low = omega arith;
      })
        where
          more : (n : ℕ) → n + 0 + 1 ≡ n + 1
          more n = omega arith

-- ---- a tally, after a leaf

same_text : (v w : List ℕ) → bytes_eq v w ≡ true → v ≡ w
same_text v w h = search (rules, bytes_eq-Decides)

pub amid-leaf : (old new : Tally) (at : PathId) (all : List Leaf) (before : List ℕ → ℕ) (those : ℕ) (now : List Leaf) (leaf : Leaf)
    → HasLeaf leaf old new → IsAmid old at all before those now → IsAmid new at (all ++ leaf ∷ []) before those (now ++ leaf ∷ [])
amid-leaf old new at all before those now leaf has h = record {
  path = has.seen.path ∙ h.path;
  values = has.seen.values ∙ ap (λ ks. insert_key (slice_cmp nat_cmp) ks (text_of leaf.value)) h.values ∙ sym (in_order-behind (map (λ l. text_of l.value) all) (text_of leaf.value)) ∙ sym (ap in_order (map-append (λ l. text_of l.value) all (leaf ∷ [])));
  each = each;
  least = has.least ∙ ap (λ n. joined is_less leaf.value n) h.least ∙ sym (least-of-leaves all leaf);
  greatest = has.greatest ∙ ap (λ n. joined is_greater leaf.value n) h.greatest ∙ sym (greatest-of-leaves all leaf);
  documents = has.seen.documents ∙ h.documents;
}
  where
    each : (value : List ℕ) → IsKnownAmid (all ++ leaf ∷ []) (before value) those (now ++ leaf ∷ []) value (get (slice_cmp nat_cmp) new.values value)
    each value = by (bytes_eq (text_of leaf.value) value) refl
      where
        by : (b : Bool) → bytes_eq (text_of leaf.value) value ≡ b → IsKnownAmid (all ++ leaf ∷ []) (before value) those (now ++ leaf ∷ []) value (get (slice_cmp nat_cmp) new.values value)
        by true e = subst (IsKnownAmid (all ++ leaf ∷ []) (before value) those (now ++ leaf ∷ []) value)
            (sym (has.seen.each value ∙ cond-true _ _ _ (is_eq-slice_cmp (text_of leaf.value) value ∙ e)
            ∙ ap₂ (λ n v. Some (seen leaf.shown n (get (slice_cmp nat_cmp) old.values v))) h.documents (same_text (text_of leaf.value) value e)))
            (own all (before value) those now leaf value e (get (slice_cmp nat_cmp) old.values value) (h.each value))
        by false e = subst (IsKnownAmid (all ++ leaf ∷ []) (before value) those (now ++ leaf ∷ []) value)
            (sym (has.seen.each value ∙ cond-false _ _ _ (is_eq-slice_cmp (text_of leaf.value) value ∙ e)))
            (other all (before value) those now leaf value e (get (slice_cmp nat_cmp) old.values value) (h.each value))

-- ---- a document, from its start to its end

no-count : (path : ℕ) (documents : List RowsView) (value : List ℕ) → list_any (is_of value) (leaves_at path documents) ≡ false → count_of path documents value ≡ 0
no-count path [] value h = refl
no-count path (d ∷ documents) value h = by (list_any (is_of value) (leaves_under path d.leaves)) (sym (list_any-append (is_of value) (leaves_under path d.leaves) (leaves_at path documents)) ∙ h) (no-count path documents value)
  where
    by : (b : Bool) → (b || list_any (is_of value) (leaves_at path documents)) ≡ false → (list_any (is_of value) (leaves_at path documents) ≡ false → count_of path documents value ≡ 0)
        → length (cond b (d ∷ filter (λ rows. list_any (is_of value) (leaves_under path rows.leaves)) documents) (filter (λ rows. list_any (is_of value) (leaves_under path rows.leaves)) documents)) ≡ 0
    by true e again = absurd (true≢false e)
    by false e again = again e

not-yet : (m n : ℕ) → m ≤ n → (m == suc n) ≡ false
not-yet m n h = grind arith

module _ (at : PathId) (documents : List RowsView) where
  started : (value : List ℕ) (known : Option Counted) → IsKnown at.0 documents value known → IsKnownAmid (leaves_at at.0 documents) (count_of at.0 documents value) (length documents) [] value known
  started value None h = record { none = h; new = no-count at.0 documents value h }
  started value (Some counted) h = record { some = h.some; shown = h.shown; count = h.count ∙ plus (count_of at.0 documents value); last = not-yet counted.last (length documents) h.last; low = step counted.last (length documents) h.last }
    where
      plus : (n : ℕ) → n ≡ n + 0
      plus n = omega arith

      step : (m n : ℕ) → m ≤ n → m ≤ suc n
      step m n h = omega arith

  pub amid-start : (old : Tally) (number : ℕ) → number ≡ old.documents + 1 → IsTallyOf (tally_view old) at documents
      → IsAmid (record { path = old.path; values = old.values; least = old.least; greatest = old.greatest; documents = number }) at (leaves_at at.0 documents ++ []) (count_of at.0 documents) (length documents) []
  amid-start old number e h = subst (λ all. IsAmid (record { path = old.path; values = old.values; least = old.least; greatest = old.greatest; documents = number }) at all (count_of at.0 documents) (length documents) []) (sym (append-nil (leaves_at at.0 documents))) (record {
    path = h.path;
    values = h.values;
    each = λ value. started value (get (slice_cmp nat_cmp) old.values value) (h.each value);
    least = h.least;
    greatest = h.greatest;
    documents = e ∙ ap (λ n. n + 1) h.documents ∙ turned (length documents);
  })
    where
      turned : (n : ℕ) → n + 1 ≡ suc n
      turned n = omega arith

  pub amid-next : (old new : Tally) (leaves : List Leaf) (leaf : Leaf) → HasLeaf leaf old new → (leaf.path.0 == at.0) ≡ true
      → IsAmid old at (leaves_at at.0 documents ++ leaves_under at.0 leaves) (count_of at.0 documents) (length documents) (leaves_under at.0 leaves)
      → IsAmid new at (leaves_at at.0 documents ++ leaves_under at.0 (leaves ++ leaf ∷ [])) (count_of at.0 documents) (length documents) (leaves_under at.0 (leaves ++ leaf ∷ []))
  amid-next old new leaves leaf has here h =
      subst (λ now. IsAmid new at (leaves_at at.0 documents ++ now) (count_of at.0 documents) (length documents) now) (sym (filter-behind (λ l. l.path.0 == at.0) leaves leaf true here))
      (subst (λ all. IsAmid new at all (count_of at.0 documents) (length documents) (leaves_under at.0 leaves ++ leaf ∷ [])) (append_assoc (leaves_at at.0 documents) (leaves_under at.0 leaves) (leaf ∷ []))
      (amid-leaf old new at (leaves_at at.0 documents ++ leaves_under at.0 leaves) (count_of at.0 documents) (length documents) (leaves_under at.0 leaves) leaf has h))

  pub amid-skip : (tally : Tally) (leaves : List Leaf) (leaf : Leaf) → (leaf.path.0 == at.0) ≡ false
      → IsAmid tally at (leaves_at at.0 documents ++ leaves_under at.0 leaves) (count_of at.0 documents) (length documents) (leaves_under at.0 leaves)
      → IsAmid tally at (leaves_at at.0 documents ++ leaves_under at.0 (leaves ++ leaf ∷ [])) (count_of at.0 documents) (length documents) (leaves_under at.0 (leaves ++ leaf ∷ []))
  amid-skip tally leaves leaf there h =
      subst (λ now. IsAmid tally at (leaves_at at.0 documents ++ now) (count_of at.0 documents) (length documents) now) (sym (filter-behind (λ l. l.path.0 == at.0) leaves leaf false there ∙ append-nil (leaves_under at.0 leaves))) h

  one_more : (those : List RowsView) (rows : RowsView) → length (those ++ rows ∷ []) ≡ suc (length those)
  one_more [] rows = refl
  one_more (d ∷ those) rows = ap suc (one_more those rows)

  module _ (rows : RowsView) where
    all_leaves : leaves_at at.0 (documents ++ rows ∷ []) ≡ leaves_at at.0 documents ++ leaves_under at.0 rows.leaves
    all_leaves = flat_map-append (λ r. leaves_under at.0 r.leaves) documents (rows ∷ []) ∙ ap (λ l. leaves_at at.0 documents ++ l) (append-nil (leaves_under at.0 rows.leaves))

    ended : (value : List ℕ) (known : Option Counted)
        → IsKnownAmid (leaves_at at.0 documents ++ leaves_under at.0 rows.leaves) (count_of at.0 documents value) (length documents) (leaves_under at.0 rows.leaves) value known → IsKnown at.0 (documents ++ rows ∷ []) value known
    ended value None h = ap (list_any (is_of value)) all_leaves ∙ h.none
    ended value (Some counted) h = record {
      some = ap (list_any (is_of value)) all_leaves ∙ h.some;
      shown = h.shown ∙ sym (ap (λ l. first_shown (filter (is_of value) l)) all_leaves);
      count = h.count ∙ sym (length-behind (λ r. list_any (is_of value) (leaves_under at.0 r.leaves)) documents rows);
      last = subst (λ n. counted.last ≤ n) (sym (one_more documents rows)) h.low;
    }

    pub amid-end : (tally : Tally) → IsAmid tally at (leaves_at at.0 documents ++ leaves_under at.0 rows.leaves) (count_of at.0 documents) (length documents) (leaves_under at.0 rows.leaves) → IsTallyOf (tally_view tally) at (documents ++ rows ∷ [])
    amid-end tally h = record {
      path = h.path;
      values = h.values ∙ sym (ap (λ l. in_order (map (λ leaf. text_of leaf.value) l)) all_leaves);
      each = λ value. ended value (get (slice_cmp nat_cmp) tally.values value) (h.each value);
      least = h.least ∙ sym (ap (λ l. first_by is_less (numbers l)) all_leaves);
      greatest = h.greatest ∙ sym (ap (λ l. first_by is_greater (numbers l)) all_leaves);
      documents = h.documents ∙ sym (one_more documents rows);
    }
