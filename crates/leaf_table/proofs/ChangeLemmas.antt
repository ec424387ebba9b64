-- The rows of a table of leaves, and how they change.
use Rattle.std.proofs.Common.{◌≡◌, ℕ, zero, suc, ◌+◌, ◌-◌, ◌<◌, ◌≤◌, Bool, true, false, not, ◌==◌, ◌||◌, cond, List, [], ◌∷◌, ◌++◌, Option, None, Some, map, reverse, length, take, get_or, set, refl, sym, ap, subst, ◌∙◌, arith}
use borrow.Author.Count.{below_more}
use Rattle.std.specs.Option.{option_map}
use Rattle.std.proofs.lemmas.Bool.{eqb-true}
use Rattle.std.proofs.lemmas.Bool.Decides.{nat_tests}
use Rattle.std.proofs.lemmas.List.{get_or-set_same, get_or-set_other, get_or_past, get_or_default, map-append, reverse-append, length-reverse, get_or-reverse, length-set, take_more}
use Rattle.search_base.specs.declared.document.DocId.{DocId}
use Rattle.search_base.specs.declared.document.Leaf.{Leaf}
use Rattle.doc_sets.specs.Sets.{has}
use Rattle.facet_index.specs.LeavesView.{LeavesView}
use Rattle.facet_index.specs.Batches.{has_id, document_at, without, after}
use Rattle.leaf_table.specs.Changes.{RowView, numbers, row_of, leaf_count, come_at, left_at}

-- what stands in the rows under an id
abbrev pub kept_in : ℕ → List (Option (List Leaf)) → Option (List Leaf)
kept_in id rows = get_or rows id None

-- one row is set
pub kept_set : (id : ℕ) (rows : List (Option (List Leaf))) (at : ℕ) (row : Option (List Leaf)) → at < length rows
    → kept_in id (set rows at row) ≡ cond (at == id) row (kept_in id rows)
kept_set id rows at row within = grind (arith, nat_tests, get_or-set_same, get_or-set_other)

none_past : (id : ℕ) → kept_in id (None ∷ []) ≡ kept_in id []
none_past zero = refl
none_past (suc n) = refl

-- an empty row comes behind
pub kept_pushed : (id : ℕ) (rows : List (Option (List Leaf))) → kept_in id (rows ++ None ∷ []) ≡ kept_in id rows
kept_pushed id [] = none_past id
kept_pushed zero (row ∷ rows) = refl
kept_pushed (suc n) (row ∷ rows) = kept_pushed n rows

-- ---- rows that come

come_behind : (id : ℕ) (rows : List RowView) (row : RowView) (kept : Option (List Leaf))
    → come_at id (rows ++ row ∷ []) kept ≡ come_at id rows (cond (row.id == id) (Some row.leaves) kept)
come_behind id [] row kept = refl
come_behind id (x ∷ xs) row kept = ap (cond (x.id == id) (Some x.leaves)) (come_behind id xs row kept)

-- one row more is set
pub one_comes : (id : ℕ) (row : RowView) (left : List RowView) (rows : List (Option (List Leaf))) → row.id < length rows
    → come_at id (reverse (row ∷ left)) (kept_in id rows) ≡ come_at id (reverse left) (kept_in id (set rows row.id (Some row.leaves)))
one_comes id row left rows within =
    ap (λ all. come_at id all (kept_in id rows)) (reverse-append (row ∷ []) left)
    ∙ come_behind id (reverse left) row (kept_in id rows)
    ∙ ap (come_at id (reverse left)) (sym (kept_set id rows row.id (Some row.leaves) within))

-- ---- rows that go

-- the ids up to one more, the last of them first
pub numbers_more : (ids : List DocId) (i : ℕ) (d : DocId) → i < length ids
    → reverse (numbers (take (i + 1) ids)) ≡ (get_or ids i d).0 ∷ reverse (numbers (take i ids))
numbers_more ids i d within =
    ap (λ xs. reverse (numbers xs)) (take_more ids i d within)
    ∙ ap reverse (map-append (λ (x : DocId). x.0) (take i ids) (get_or ids i d ∷ []))
    ∙ reverse-append (numbers (take i ids)) ((get_or ids i d).0 ∷ [])

left_more : (id at : ℕ) (gone : List ℕ) (kept : Option (List Leaf)) → cond (at == id) None (left_at id gone kept) ≡ left_at id (at ∷ gone) kept
left_more id at gone kept = by (at == id)
  where
    by : (b : Bool) → cond b None (cond (has gone id) None kept) ≡ cond (b || has gone id) None kept
    by true = refl
    by false = refl

-- the row of one more is emptied
pub one_goes : (ids : List DocId) (i : ℕ) (d : DocId) (start rows : List (Option (List Leaf))) → i < length ids
    → ((id : ℕ) → kept_in id rows ≡ left_at id (reverse (numbers (take i ids))) (kept_in id start)) → (get_or ids i d).0 < length rows
    → (id : ℕ) → kept_in id (set rows (get_or ids i d).0 None) ≡ left_at id (reverse (numbers (take (i + 1) ids))) (kept_in id start)
one_goes ids i d start rows more told within id =
    let at = (get_or ids i d).0 in
    kept_set id rows at None within
    ∙ ap (cond (at == id) None) (told id)
    ∙ left_more id at (reverse (numbers (take i ids))) (kept_in id start)
    ∙ ap (λ gone. left_at id gone (kept_in id start)) (sym (numbers_more ids i d more))

-- one more has no row
pub none_goes : (ids : List DocId) (i : ℕ) (d : DocId) (start rows : List (Option (List Leaf))) → i < length ids
    → ((id : ℕ) → kept_in id rows ≡ left_at id (reverse (numbers (take i ids))) (kept_in id start)) → length rows ≤ (get_or ids i d).0
    → (id : ℕ) → kept_in id rows ≡ left_at id (reverse (numbers (take (i + 1) ids))) (kept_in id start)
none_goes ids i d start rows more told past id =
    let at = (get_or ids i d).0 in
    unset (at == id) (λ same. get_or_past rows id None (let e = eqb-true at id same in omega arith))
    ∙ ap (cond (at == id) None) (told id)
    ∙ left_more id at (reverse (numbers (take i ids))) (kept_in id start)
    ∙ ap (λ gone. left_at id gone (kept_in id start)) (sym (numbers_more ids i d more))
  where
    unset : (b : Bool) → (b ≡ true → kept_in id rows ≡ None) → kept_in id rows ≡ cond b None (kept_in id rows)
    unset true h = h refl
    unset false h = refl

-- ---- what is left of documents

is_any : (id : ℕ) (documents : List LeavesView) → has (map (λ document. document.id) documents) id ≡ has_id id documents
is_any id [] = refl
is_any id (d ∷ ds) = ap (λ b. (d.id == id) || b) (is_any id ds)

-- the leaves of a document that may be there
abbrev leaves_if : Option LeavesView → Option (List Leaf)
leaves_if document = option_map (λ (document : LeavesView). document.leaves) document

left_of_one : (goes is gone : Bool) (document : LeavesView) (left : Option (List Leaf)) (all : Option LeavesView) → (is ≡ true → goes ≡ gone)
    → left ≡ cond gone None (leaves_if all)
    → cond goes left (cond is (Some document.leaves) left) ≡ cond gone None (leaves_if (cond is (Some document) all))
left_of_one true true true document left all same told = told
left_of_one true true false document left all same told = let e : true ≡ false = same refl in absurd (cc)
left_of_one false true true document left all same told = let e : false ≡ true = same refl in absurd (cc)
left_of_one false true false document left all same told = refl
left_of_one true false gone document left all same told = told
left_of_one false false gone document left all same told = told

kept_of_one : (id : ℕ) (b : Bool) (d : LeavesView) (ds : List LeavesView) → leaves_if (document_at id (cond (not b) (d ∷ ds) ds))
    ≡ cond b (leaves_if (document_at id ds)) (cond (d.id == id) (Some d.leaves) (leaves_if (document_at id ds)))
kept_of_one id true d ds = refl
kept_of_one id false d ds = by (d.id == id)
  where
    by : (b : Bool) → leaves_if (cond b (Some d) (document_at id ds)) ≡ cond b (Some d.leaves) (leaves_if (document_at id ds))
    by true = refl
    by false = refl

abbrev nothing : Option (List Leaf)
nothing = None

left_without : (id : ℕ) (gone documents : List LeavesView)
    → leaves_if (document_at id (without gone documents)) ≡ cond (has_id id gone) None (leaves_if (document_at id documents))
left_without id gone [] = by (has_id id gone)
  where
    by : (b : Bool) → nothing ≡ cond b nothing nothing
    by true = refl
    by false = refl
left_without id gone (d ∷ ds) =
    kept_of_one id (has_id d.id gone) d (without gone ds)
    ∙ left_of_one (has_id d.id gone) (d.id == id) (has_id id gone) d (leaves_if (document_at id (without gone ds))) (document_at id ds)
    (λ h. ap (λ n. has_id n gone) (eqb-true d.id id h)) (left_without id gone ds)

come_before : (id : ℕ) (come rest : List LeavesView)
    → leaves_if (document_at id (come ++ rest)) ≡ come_at id (map row_of come) (leaves_if (document_at id rest))
come_before id [] rest = refl
come_before id (d ∷ ds) rest = by (d.id == id) ∙ ap (cond (d.id == id) (Some d.leaves)) (come_before id ds rest)
  where
    by : (b : Bool) → leaves_if (cond b (Some d) (document_at id (ds ++ rest))) ≡ cond b (Some d.leaves) (leaves_if (document_at id (ds ++ rest)))
    by true = refl
    by false = refl

-- the leaves of documents after some went and others came
pub leaves_after : (id : ℕ) (gone come documents : List LeavesView)
    → come_at id (map row_of come) (left_at id (map (λ document. document.id) gone) (leaves_if (document_at id documents)))
    ≡ leaves_if (document_at id (after gone come documents))
leaves_after id gone come documents =
    ap (λ b. come_at id (map row_of come) (cond b None (leaves_if (document_at id documents)))) (is_any id gone)
    ∙ ap (come_at id (map row_of come)) (sym (left_without id gone documents))
    ∙ sym (come_before id come (without gone documents))

-- ---- how many rows are needed

-- one row more is below a bound that is not lower
pub below_one_more : (rows : List RowView) (i most next : ℕ) → ((k : ℕ) (d : RowView) → k < i → (get_or rows k d).id < most)
    → most ≤ next → ((d : RowView) → (get_or rows i d).id < next) → (k : ℕ) (d : RowView) → k < i + 1 → (get_or rows k d).id < next
below_one_more rows i most next below low here k d h =
    below_more (λ k. (d : RowView) → (get_or rows k d).id < next) i (λ k less d. let b = below k d less in omega arith) here k h d

-- the id of a row that was read, whatever is read past the end
pub id_of_item : (rows : List RowView) (i : ℕ) (row : RowView) (id : ℕ) → i < length rows → row ≡ get_or rows i row → id ≡ row.id
    → (d : RowView) → (get_or rows i d).id ≡ id
id_of_item rows i row id within is same d = ap (λ r. r.id) (get_or_default rows i d row within ∙ sym is) ∙ sym same

-- the rows in the other order
pub all_of_reversed : (rows : List RowView) (n : ℕ) → ((k : ℕ) (d : RowView) → k < length (reverse rows) → (get_or (reverse rows) k d).id < n)
    → (k : ℕ) (d : RowView) → k < length rows → (get_or rows k d).id < n
all_of_reversed rows n below k d less =
    let l = length-reverse rows in
    let back : length rows - 1 - (length rows - 1 - k) ≡ k = omega arith in
    let e = get_or-reverse rows (length rows - 1 - k) d (omega arith) ∙ ap (λ j. get_or rows j d) back in
    subst (λ (row : RowView). row.id < n) e (below (length rows - 1 - k) d (omega (arith, l)))

-- ---- one turn of the loop over rows that come

-- what was set so far and what is left are what comes, and each that is left has a row
pub record IsSetting (start rows : List (Option (List Leaf))) (come left : List RowView) : Type 0 where
  pub each : (id : ℕ) → come_at id (reverse come) (kept_in id start) ≡ come_at id (reverse left) (kept_in id rows)
  pub within : (k : ℕ) (d : RowView) → k < length left → (get_or left k d).id < length rows

module _ (start rows : List (Option (List Leaf))) (come left : List RowView) (row : RowView) (setting : IsSetting start rows come (row ∷ left)) where
  -- one row is set
  pub one_set : IsSetting start (set rows row.id (Some row.leaves)) come left
  one_set = record {
    each = λ id. setting.each id ∙ one_comes id row left rows (setting.within 0 row (omega arith));
    within = λ k d less. subst (λ n. (get_or left k d).id < n) (sym (length-set rows row.id (Some row.leaves))) (setting.within (suc k) d (omega arith));
  }

  -- the row that comes next has its place
  pub next_within : row.id < length rows
  next_within = setting.within 0 row (omega arith)

-- ---- how many leaves come

count_append : (xs ys : List RowView) → leaf_count (xs ++ ys) ≡ leaf_count xs + leaf_count ys
count_append [] ys = omega arith
count_append (x ∷ xs) ys = let e = count_append xs ys in omega arith

-- the leaves of one row more
pub count_more : (rows : List RowView) (i : ℕ) (row : RowView) → i < length rows → row ≡ get_or rows i row
    → leaf_count (take (i + 1) rows) ≡ leaf_count (take i rows) + length row.leaves
count_more rows i row within is =
    ap leaf_count (take_more rows i row within)
    ∙ count_append (take i rows) (get_or rows i row ∷ [])
    ∙ ap (λ (r : RowView). leaf_count (take i rows) + leaf_count (r ∷ [])) (sym is)
    ∙ (omega arith)

-- the rows in the other order
pub count_reversed : (rows : List RowView) → leaf_count (reverse rows) ≡ leaf_count rows
count_reversed [] = refl
count_reversed (row ∷ rows) =
    ap leaf_count (reverse-append (row ∷ []) rows)
    ∙ count_append (reverse rows) (row ∷ [])
    ∙ (let e = count_reversed rows in omega arith)
