-- Rows of synonyms once each, by a set of the words that were seen.
use Rattle.std.proofs.Common.{◌≡◌, ℕ, Bool, true, false, Ordering, Less, Equal, Greater, List, [], ◌∷◌, ◌++◌, filter, Vec, refl, sym, ap, ap₂, ◌∙◌, cond}
use Rattle.std.specs.BTreeMap.{is_at}
use Rattle.std.specs.BTreeSet.{insert_key}
use Rattle.std.specs.Cmp.{both_tied, first_so, second_so}
use Rattle.std.specs.Cmp.Lexicographic.{pointwise, slice_cmp, lists_ties, texts_ties}
use Rattle.std.specs.List.{AllByRecursion, IsDistinct, list_any}
use Rattle.std.specs.Ordering.{nat_cmp, is_eq, ordering_then, match_ordering}
use Rattle.std.specs.Prelude.{bytes_eq, not, ◌||◌}
use Rattle.std.proofs.Math.Bool.{and_comm}
use Rattle.std.proofs.lemmas.Map.Keys.{IsDistinct-cons, IsDistinct-head, IsDistinct-tail}
use Rattle.std.proofs.lemmas.Slice.Eq.{bytes_eq-Decides, slice_eq-Decides}
use Rattle.synonym_terms.specs.SynonymRowView.{SynonymRowView}
use Rattle.synonym_terms.specs.Synonyms.{HasTerm}
use Rattle.search_settings.specs.QueryWords.{same_words, each_once}

-- ---- the set of the words that were seen

or_twice : (a r : Bool) → (a || r) ≡ (a || (a || r))
or_twice true r = refl
or_twice false r = refl

or_swap : (a b r : Bool) → (a || (b || r)) ≡ (b || (a || r))
or_swap true true r = refl
or_swap true false r = refl
or_swap false true r = refl
or_swap false false r = refl

module _ {K : Type 0} (cmp : K → K → Ordering) (f : K → Bool) (k : K) (alike : (x : K) → cmp k x ≡ Equal → f k ≡ f x) where
  -- a key that is put in, by where it stands to the first
  insert_at : (x : K) (xs : List K) (o : Ordering) → cmp k x ≡ o → list_any f (insert_key cmp xs k) ≡ (f k || list_any f xs)
      → list_any f (match_ordering o (k ∷ x ∷ xs) (x ∷ xs) (x ∷ insert_key cmp xs k)) ≡ (f k || list_any f (x ∷ xs))
  insert_at x xs Less e more = refl
  insert_at x xs Equal e more = or_twice (f x) (list_any f xs) ∙ ap (λ b. b || (f x || list_any f xs)) (sym (alike x e))
  insert_at x xs Greater e more = ap (λ b. f x || b) more ∙ or_swap (f x) (f k) (list_any f xs)

  -- a key that is put in is there, and so are the others
  any-insert : (xs : List K) → list_any f (insert_key cmp xs k) ≡ (f k || list_any f xs)
  any-insert [] = refl
  any-insert (x ∷ xs) = insert_at x xs (cmp k x) refl (any-insert xs)

abbrev order : List (List ℕ) → List (List ℕ) → Ordering
order = slice_cmp (slice_cmp nat_cmp)

ties : (v w : List (List ℕ)) → pointwise bytes_eq v w ≡ is_eq (order v w)
ties v w = lists_ties (slice_cmp nat_cmp) texts_ties v w

same : (v w : List (List ℕ)) → pointwise bytes_eq v w ≡ true → v ≡ w
same v w e = (slice_eq-Decides bytes_eq-Decides v w _ refl).0 e

abbrev row_with : List (List ℕ) → List (List ℕ) → SynonymRowView
row_with key term = record { key = key; term = term }

-- rows with the same words are the same
same_rows : (row other : SynonymRowView) → same_words row other ≡ true → row ≡ other
same_rows row other e =
    ap₂ row_with
    (same row.key other.key (first_so (pointwise bytes_eq row.key other.key) (pointwise bytes_eq row.term other.term) e))
    (same row.term other.term (second_so (pointwise bytes_eq row.key other.key) (pointwise bytes_eq row.term other.term) e))

module _ {A B : Type 0} where
  abbrev pub row_of : Vec (List ℕ) A × Vec (List ℕ) B → SynonymRowView
  row_of words = record { key = words.1.items; term = words.0.items }

  abbrev pub compare : Vec (List ℕ) A × Vec (List ℕ) B → Vec (List ℕ) A × Vec (List ℕ) B → Ordering
  compare v w = ordering_then (order v.0.items w.0.items) (order v.1.items w.1.items)

  ties_here : (v w : Vec (List ℕ) A × Vec (List ℕ) B) → same_words (row_of v) (row_of w) ≡ is_eq (compare v w)
  ties_here v w =
      and_comm (pointwise bytes_eq v.1.items w.1.items) (pointwise bytes_eq v.0.items w.0.items)
      ∙ both_tied _ _ (order v.0.items w.0.items) (order v.1.items w.1.items) (ties v.0.items w.0.items) (ties v.1.items w.1.items)

  -- words are looked up among the keys of a set as the words of rows
  pub seen_at : (words : Vec (List ℕ) A × Vec (List ℕ) B) (keys : List (Vec (List ℕ) A × Vec (List ℕ) B))
      → list_any (is_at (compare words)) keys ≡ list_any (λ key. same_words (row_of words) (row_of key)) keys
  seen_at words [] = refl
  seen_at words (key ∷ keys) = ap₂ (λ a b. a || b) (sym (ties_here words key)) (seen_at words keys)

  -- the words that are put in are seen, and the others as before
  pub seen_more : (words : Vec (List ℕ) A × Vec (List ℕ) B) (keys : List (Vec (List ℕ) A × Vec (List ℕ) B)) (row : SynonymRowView)
      → list_any (λ key. same_words row (row_of key)) (insert_key compare keys words)
      ≡ (same_words row (row_of words) || list_any (λ key. same_words row (row_of key)) keys)
  seen_more words keys row =
      any-insert compare (λ key. same_words row (row_of key)) words
      (λ key e. ap (same_words row) (same_rows (row_of words) (row_of key) (ties_here words key ∙ ap is_eq e))) keys

-- ---- rows once each

abbrev pub unseen : (SynonymRowView → Bool) → List SynonymRowView → List SynonymRowView
unseen seen rows = filter (λ row. not (seen row)) rows

-- a row before the others, if it was not seen
abbrev with_next : (SynonymRowView → Bool) → SynonymRowView → List SynonymRowView → Bool → List SynonymRowView
with_next seen next rows b = cond (not b) (next ∷ unseen seen rows) (unseen seen rows)

-- without the words of a row and those that were seen before
without : (old new : SynonymRowView → Bool) (row : SynonymRowView) → ((other : SynonymRowView) → new other ≡ (same_words other row || old other))
    → (rows : List SynonymRowView) → unseen old (unseen (λ later. same_words later row) rows) ≡ unseen new rows
without old new row more [] = refl
without old new row more (next ∷ rows) = by (unseen (λ later. same_words later row) rows) (same_words next row) (old next) refl refl (without old new row more rows)
  where
    by : (left : List SynonymRowView) (s o : Bool) → same_words next row ≡ s → old next ≡ o → unseen old left ≡ unseen new rows
        → unseen old (cond (not s) (next ∷ left) left) ≡ unseen new (next ∷ rows)
    by left true o s_is o_is rest = rest ∙ sym (ap (with_next new next rows) (more next ∙ ap (λ s. s || old next) s_is))
    by left false true s_is o_is rest = ap (with_next old next left) o_is ∙ rest ∙ sym (ap (with_next new next rows) (more next ∙ ap₂ (λ s o. s || o) s_is o_is))
    by left false false s_is o_is rest = ap (with_next old next left) o_is ∙ ap (λ v. next ∷ v) rest ∙ sym (ap (with_next new next rows) (more next ∙ ap₂ (λ s o. s || o) s_is o_is))

-- a row stands before the later ones, unless its words were seen
pub once_more : (old new : SynonymRowView → Bool) (row : SynonymRowView) → ((other : SynonymRowView) → new other ≡ (same_words other row || old other))
    → (rows : List SynonymRowView) → cond (old row) [] (row ∷ []) ++ unseen new (each_once rows) ≡ unseen old (each_once (row ∷ rows))
once_more old new row more rows = by (old row) (without old new row more (each_once rows))
  where
    by : (b : Bool) → unseen old (unseen (λ later. same_words later row) (each_once rows)) ≡ unseen new (each_once rows)
        → cond b [] (row ∷ []) ++ unseen new (each_once rows)
        ≡ cond (not b) (row ∷ unseen old (unseen (λ later. same_words later row) (each_once rows))) (unseen old (unseen (λ later. same_words later row) (each_once rows)))
    by true rest = sym rest
    by false rest = ap (λ v. row ∷ v) (sym rest)

-- nothing was seen yet
pub none_seen : (seen : SynonymRowView → Bool) → ((row : SynonymRowView) → seen row ≡ false) → (rows : List SynonymRowView) → unseen seen rows ≡ rows
none_seen seen none [] = refl
none_seen seen none (row ∷ rows) = ap (λ b. cond (not b) (row ∷ unseen seen rows) (unseen seen rows)) (none row) ∙ ap (λ v. row ∷ v) (none_seen seen none rows)

-- ---- what holds of rows that stand once each

filter-keeps : (P : SynonymRowView → Type 0) (test : SynonymRowView → Bool) (rows : List SynonymRowView) → AllByRecursion P rows → AllByRecursion P (filter test rows)
filter-keeps P test [] h = tt
filter-keeps P test (row ∷ rows) h = by (test row) (filter-keeps P test rows h.1)
  where
    by : (b : Bool) → AllByRecursion P (filter test rows) → AllByRecursion P (cond b (row ∷ filter test rows) (filter test rows))
    by true rest = (h.0, rest)
    by false rest = rest

-- rows with terms have terms
pub once-has-terms : (rows : List SynonymRowView) → AllByRecursion HasTerm rows → AllByRecursion HasTerm (each_once rows)
once-has-terms [] h = tt
once-has-terms (row ∷ rows) h = (h.0, filter-keeps HasTerm (λ later. not (same_words later row)) (each_once rows) (once-has-terms rows h.1))

abbrev pub AreApart : List SynonymRowView → Type 0
AreApart rows = IsDistinct (λ row later. same_words later row) rows

others-apart : (row : SynonymRowView) (rows : List SynonymRowView) → AllByRecursion (λ later. same_words later row ≡ false) (unseen (λ later. same_words later row) rows)
others-apart row [] = tt
others-apart row (next ∷ rows) = by (same_words next row) refl (others-apart row rows)
  where
    by : (b : Bool) → same_words next row ≡ b → AllByRecursion (λ later. same_words later row ≡ false) (unseen (λ later. same_words later row) rows)
        → AllByRecursion (λ later. same_words later row ≡ false) (with_next (λ later. same_words later row) next rows b)
    by true is rest = rest
    by false is rest = (is, rest)

unseen-apart : (seen : SynonymRowView → Bool) (rows : List SynonymRowView) → AreApart rows → AreApart (unseen seen rows)
unseen-apart seen [] h = h
unseen-apart seen (row ∷ rows) h = by (seen row) (unseen-apart seen rows (IsDistinct-tail (λ row later. same_words later row) row rows h))
  where
    by : (b : Bool) → AreApart (unseen seen rows) → AreApart (with_next seen row rows b)
    by true rest = rest
    by false rest =
        IsDistinct-cons (λ row later. same_words later row) row (unseen seen rows)
        (filter-keeps (λ later. same_words later row ≡ false) (λ later. not (seen later)) rows (IsDistinct-head (λ row later. same_words later row) row rows h)) rest

-- no two rows have the same words
pub once-apart : (rows : List SynonymRowView) → AreApart (each_once rows)
unfolding IsDistinct
once-apart [] = tt
once-apart (row ∷ rows) =
    IsDistinct-cons (λ row later. same_words later row) row (unseen (λ later. same_words later row) (each_once rows)) (others-apart row (each_once rows))
    (unseen-apart (λ later. same_words later row) (each_once rows) (once-apart rows))
