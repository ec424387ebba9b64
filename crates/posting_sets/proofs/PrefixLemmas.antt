-- The documents of words that begin alike, by their lists.
use Rattle.std.proofs.Common.{◌≡◌, ℕ, suc, ◌<◌, inl, inr, Bool, true, false, ◌&&◌, ◌||◌, cond, List, [], ◌∷◌, length, map, get_or, eqb, None, Some, refl, sym, ap, subst, ◌∙◌, arith}
use Rattle.std.specs.Prelude.{nat_eq}
use Rattle.std.specs.List.{filter, list_any, starts_with}
use Rattle.std.specs.List.Sorted.{IsStrictlySortedBy}
use Rattle.std.specs.Map.{keys_of}
use Rattle.std.specs.BTreeMap.{is_at}
use Rattle.std.specs.Ordering.{is_eq}
use Rattle.std.specs.Cmp.{both_ways}
use Rattle.std.proofs.lemmas.Bool.{cond-true, cond-false, eqb-true, and_from, or_left, or_right}
use Rattle.std.proofs.lemmas.Map.Keys.{Less-from_sorted, sorted_tail}
use Rattle.std.proofs.lemmas.Map.Text.{is_eq-slice_cmp}
use Rattle.search_base.specs.Occurrence.{words_stand_at}
use Rattle.search_base.proofs.Members.{Among, Contains-from_among}
use Rattle.sorted_pages.specs.Entries.{has, IsIncreasing}
use Rattle.sorted_pages.proofs.SetLemmas.{has-filter, increasing-filter}
use Rattle.postings.specs.Dictionary.{PostingsView, word_cmp, value_at, list_at, some_list}
use Rattle.postings.specs.Documents.{Document, places_of}
use Rattle.postings.specs.Fresh.{StandsFor}
use Rattle.postings.proofs.WordLemmas.{itself, turned, same_word, bytes_itself}
use Rattle.posting_sets.specs.Entries.{document_of, path_of, position_of}
use Rattle.posting_sets.specs.Starts.{is_start, is_inside, AreStarts}
use Rattle.posting_sets.specs.Found.{Finds, AreInLists, has_document, occurring}
use Rattle.posting_sets.specs.Prefixes.{PrefixView, in_rows, AreGathered, prefix_term}
use Rattle.posting_sets.proofs.StartLemmas.{is_start_one}
use Rattle.posting_sets.proofs.WalkLemmas.{both_true, either_true, turned_or}
use Rattle.posting_sets.proofs.PlaceLemmas.{has_at}
use Rattle.posting_sets.proofs.OccursLemmas.{list_any-found, list_any-from, has_found, has_from, finds_starts, occurring_is}

abbrev Rows : Type 0
Rows = List (List ℕ × List ℕ)

-- ---- one list
pub only_one : {X : Type 0} (xs : List X) (d : X) → length xs ≡ 1 → xs ≡ get_or xs 0 d ∷ []
only_one [] d e = absurd (omega arith)
only_one (x ∷ []) d e = refl
only_one (x ∷ (y ∷ ys)) d e = absurd (omega arith)

module _ (ids : List ℕ) (id : ℕ) (test : ℕ → Bool) (of : (entry : ℕ) → test entry ≡ true → document_of entry ≡ id) where
  pub finds_list : (list : List ℕ) → Finds ids (is_start (list ∷ [])) test (has ids id && list_any test list)
  finds_list list = record {
    found = λ h.
        let both = both_true (has ids id) _ h in
        let f = has_found test list both.1 in
        (f.0, ap (has ids) (of f.0 f.2) ∙ both.0, is_start_one list f.0 ∙ f.1, f.2);
    from = λ entry inside start t.
        and_from _ _ (ap (has ids) (sym (of entry t)) ∙ inside) (has_from test list entry (sym (is_start_one list entry) ∙ start) t);
  }

  pub one_list : (list starts : List ℕ) → AreStarts ids (list ∷ []) starts → list_any test starts ≡ (has ids id && list_any test list)
  one_list list starts are =
      let walked = finds_starts ids (list ∷ []) starts test are in
      let listed = finds_list list in
      both_ways _ _
      (λ h. let f = walked.found h in listed.from f.0 f.1 f.2 f.3)
      (λ h. let f = listed.found h in walked.from f.0 f.1 f.2 f.3)

  -- ---- several
  row_found : (row : List ℕ) → (has ids id && list_any test row) ≡ true → (entry : ℕ) × (is_inside ids entry ≡ true) × (has row entry ≡ true) × (test entry ≡ true)
  row_found row h =
      let both = both_true (has ids id) _ h in
      let f = has_found test row both.1 in
      (f.0, ap (has ids) (of f.0 f.2) ∙ both.0, f.1, f.2)

  row_from : (row : List ℕ) (entry : ℕ) → is_inside ids entry ≡ true → has row entry ≡ true → test entry ≡ true → (has ids id && list_any test row) ≡ true
  row_from row entry inside at t = and_from _ _ (ap (has ids) (sym (of entry t)) ∙ inside) (has_from test row entry at t)

  abbrev pub has_passing : PrefixView → Bool
  has_passing view = list_any (λ row. has ids id && list_any test row) view.long || (has ids id && list_any test view.short)

  pub finds_rows : (view : PrefixView) → Finds ids (in_rows view) test (has_passing view)
  finds_rows view = record {
    found = λ h. either_true (list_any (λ row. has ids id && list_any test row) view.long) _ h
        (λ here.
        let row = list_any-found _ view.long here in
        let f = row_found row.0 row.2 in
        (f.0, f.1, or_left _ _ (list_any-from _ view.long row.0 row.1 f.2), f.3))
        (λ there. let f = row_found view.short there in (f.0, f.1, or_right (list_any (λ row. has row f.0) view.long) _ f.2, f.3));
    from = λ entry inside start t. either_true (list_any (λ row. has row entry) view.long) _ start
        (λ here.
        let row = list_any-found _ view.long here in
        or_left _ _ (list_any-from _ view.long row.0 row.1 (row_from row.0 entry inside row.2 t)))
        (λ there. or_right (list_any (λ row. has ids id && list_any test row) view.long) _ (row_from view.short entry inside there t));
  }

-- ---- steps over rows
pub any_guarded : {X : Type 0} (u : Bool) (p : X → Bool) (xs : List X) → list_any (λ x. u && p x) xs ≡ (u && list_any p xs)
any_guarded true p xs = refl
any_guarded false p [] = refl
any_guarded false p (x ∷ xs) = any_guarded false p xs

pub any_mapped : {X Y : Type 0} (f : X → Y) (p : Y → Bool) (xs : List X) → list_any p (map f xs) ≡ list_any (λ x. p (f x)) xs
any_mapped f p [] = refl
any_mapped f p (x ∷ xs) = ap (λ b. p (f x) || b) (any_mapped f p xs)

-- one more of what is added
pub added_step : (new this old taken first more : Bool) → new ≡ (this || old) → old ≡ (taken || first) → more ≡ (taken || this) → new ≡ (more || first)
added_step new this old taken first more e f g = e ∙ ap (λ b. this || b) f ∙ turned_or this taken first ∙ ap (λ b. b || first) (sym g)

-- what the long lists and the short row have
pub guarded_both : (u new s old l none : Bool) → new ≡ (s || old) → (u && old) ≡ (u && (l || none)) → none ≡ false → (u && new) ≡ ((u && l) || (u && s))
guarded_both true new s old l none e f g = e ∙ ap (λ b. s || b) (f ∙ ap (λ b. l || b) g) ∙ turned s l
  where
    turned : (s l : Bool) → (s || (l || false)) ≡ (l || s)
    turned true true = refl
    turned true false = refl
    turned false true = refl
    turned false false = refl
guarded_both false new s old l none e f g = refl

-- what is known of the documents of a set alone
pub guarded : (u d s old : Bool) → s ≡ (u && d) → (u && (s || old)) ≡ (u && (d || old))
guarded true d s old e = ap (λ b. b || old) e
guarded false d s old e = refl

-- ---- a list whose documents are all known
pub are_in_list : (ids set list : List ℕ) (lists : List (List ℕ)) → IsIncreasing ids → set ≡ filter (has_document list) ids → lists ≡ list ∷ [] → AreInLists ids lists set
are_in_list ids set list lists up e one = subst (λ v. AreInLists ids v set) (sym one) (record {
  up = subst IsIncreasing (sym e) (increasing-filter (has_document list) ids up);
  each = λ id. subst (Finds ids (is_start (list ∷ [])) (λ entry. eqb (document_of entry) id)) (sym (ap (λ v. has v id) e ∙ has-filter (has_document list) ids id))
      (finds_list ids id (λ entry. eqb (document_of entry) id) (λ entry t. eqb-true _ _ t) list);
})

pub are_walked : (ids set starts found : List ℕ) (lists : List (List ℕ)) → IsIncreasing found → set ≡ found → AreStarts ids lists starts → ((id : ℕ) → has found id ≡ has_document starts id)
    → AreInLists ids lists set
are_walked ids set starts found lists up e are each = subst (AreInLists ids lists) (sym e) (record {
  up = up;
  each = λ id. subst (Finds ids (is_start lists) (λ entry. eqb (document_of entry) id)) (sym (each id)) (finds_starts ids lists starts (λ entry. eqb (document_of entry) id) are);
})

-- ---- rows by word
less_later : (k : List ℕ) (ks : List (List ℕ)) (j : List ℕ) → IsStrictlySortedBy word_cmp (k ∷ ks) → Among ks j → is_eq (word_cmp j k) ≡ false
less_later k ks j sorted h =
    let at = Contains-from_among ks j h in
    turned j k ∙ ap is_eq (ap (word_cmp k) (sym at.2) ∙ Less-from_sorted word_cmp (k ∷ ks) 0 (suc at.0) j sorted (omega arith) (let l : at.0 < length ks = at.1 in omega arith))

among_keys : (rows : Rows) (row : List ℕ × List ℕ) → Among rows row → Among (keys_of rows) row.0
among_keys [] row h = h
among_keys (r ∷ rs) row (inl same) = inl (ap (λ r. r.0) same)
among_keys (r ∷ rs) row (inr later) = inr (among_keys rs row later)

pub value_of_row : (rows : Rows) (row : List ℕ × List ℕ) → IsStrictlySortedBy word_cmp (keys_of rows) → Among rows row → value_at row.0 rows ≡ Some row.1
value_of_row [] row sorted h = absurd h
value_of_row (r ∷ rs) row sorted (inl same) =
    cond-true _ _ _ (ap (λ (s : List ℕ × List ℕ). is_eq (word_cmp row.0 s.0)) same ∙ itself row.0) ∙ ap (λ (s : List ℕ × List ℕ). Some s.1) same
value_of_row (r ∷ rs) row sorted (inr later) =
    cond-false _ _ _ (less_later r.0 (keys_of rs) row.0 sorted (among_keys rs row later))
    ∙ value_of_row rs row (sorted_tail word_cmp r.0 (keys_of rs) sorted) later

row_of_value : (word : List ℕ) (rows : Rows) (list : List ℕ) → value_at word rows ≡ Some list → (row : List ℕ × List ℕ) × Among rows row × (row.1 ≡ list)
row_of_value word [] list e = absurd (cc)
row_of_value word (r ∷ rs) list e = by (is_at (word_cmp word) r.0) e (row_of_value word rs list)
  where
    by : (b : Bool) → cond b (Some r.1) (value_at word rs) ≡ Some list → (value_at word rs ≡ Some list → (row : List ℕ × List ℕ) × Among rs row × (row.1 ≡ list))
        → (row : List ℕ × List ℕ) × Among (r ∷ rs) row × (row.1 ≡ list)
    by true e later = (r, inl refl, cc)
    by false e later = let f = later e in (f.0, inr f.1, f.2)

pub shown : (b : Bool) (xs list : List ℕ) → cond b (some_list xs) None ≡ Some list → (b ≡ true) × (xs ≡ list)
shown true [] list e = absurd (cc)
shown true (x ∷ xs) list e = (refl, cc)
shown false xs list e = absurd (cc)

shows : (b : Bool) (xs : List ℕ) (entry : ℕ) → b ≡ true → has xs entry ≡ true → cond b (some_list xs) None ≡ Some xs
shows true [] entry e h = absurd (cc)
shows true (x ∷ xs) entry e h = refl
shows false xs entry e h = absurd (cc)

-- ---- the words that begin so
module _ (view : PostingsView) (documents : List Document) (fresh : StandsFor view documents) (prefix : List ℕ) (rows : Rows)
    (lists : (word : List ℕ) → value_at word rows ≡ cond (starts_with nat_eq word prefix) (some_list (list_at word view)) None)
    (sorted : IsStrictlySortedBy word_cmp (keys_of rows)) where
  pub begins_at : (entry : ℕ) → list_any (λ row. has row.1 entry) rows
      ≡ words_stand_at (places_of (document_of entry) documents) true (path_of entry) (position_of entry) (prefix ∷ [])
  begins_at entry = both_ways _ _
      (λ h.
      let row = list_any-found _ rows h in
      let own = shown _ _ _ (sym (lists row.0.0) ∙ value_of_row rows row.0 sorted row.1) in
      let at = list_any-found _ (places_of (document_of entry) documents)
      (sym (has_at view documents fresh row.0.0 entry) ∙ ap (λ v. has v entry) own.1 ∙ row.2) in
      let here = both_true _ _ at.2 in
      let same = same_word at.0.word row.0.0 (is_eq-slice_cmp at.0.word row.0.0 ∙ here.1) in
      and_from _ true (list_any-from _ (places_of (document_of entry) documents) at.0 at.1 (and_from _ _ here.0 (ap (λ w. starts_with nat_eq w prefix) same ∙ own.0))) refl)
      (λ h.
      let at = list_any-found _ (places_of (document_of entry) documents) (both_true _ true h).0 in
      let here = both_true _ _ at.2 in
      let word = at.0.word in
      let there : has (list_at word view) entry ≡ true =
      has_at view documents fresh word entry ∙ list_any-from _ (places_of (document_of entry) documents) at.0 at.1 (and_from _ _ here.0 (bytes_itself word)) in
      let row = row_of_value word rows (list_at word view) (lists word ∙ shows _ _ entry here.1 there) in
      list_any-from _ rows row.0 row.1 (ap (λ v. has v entry) row.2 ∙ there))

-- ---- what is gathered
pub prefix_found : (view : PrefixView) (documents : List Document) → AreGathered documents view → (ids set : List ℕ) → IsIncreasing ids → IsIncreasing set
    → ((id : ℕ) → has set id ≡ (list_any (λ row. has ids id && has_document row id) view.long || (has ids id && has_document view.short id)))
    → set ≡ occurring documents (prefix_term view) ids
prefix_found view documents are ids set up set_up each =
    occurring_is documents are.narrow (prefix_term view) view.prefix [] refl (in_rows view) are.each ids set up set_up
    (λ id. subst (Finds ids (in_rows view) (λ entry. eqb (document_of entry) id)) (sym (each id))
    (finds_rows ids id (λ entry. eqb (document_of entry) id) (λ entry t. eqb-true _ _ t) view))

-- nothing is left to be gathered
pub alone : (a b : Bool) → b ≡ false → a ≡ (a || b)
alone true b e = refl
alone false b e = sym e

-- a short list's places come into the row
pub row_more : (long row list : Bool) → (long || (row || list)) ≡ (list || (long || row))
row_more true row true = refl
row_more true row false = refl
row_more false true true = refl
row_more false true false = refl
row_more false false true = refl
row_more false false false = refl
