-- The number of the first entry is the first number.
use Rattle.std.proofs.Common.{◌≡◌, ℕ, ℤ, Bool, true, false, cond, int_lt, List, [], ◌∷◌, Option, None, Some, map, refl, sym, ap, subst, ◌∙◌}
use Rattle.std.specs.List.{filter, cons_option}
use Rattle.std.specs.Option.{option_map}
use Rattle.std.specs.Ordering.{nat_cmp, is_lt}
use Rattle.std.specs.Cmp.Lexicographic.{slice_cmp}
use Rattle.search_base.specs.declared.cost_key.CostKey.{CostKey}
use Rattle.search_base.specs.declared.cost_key.CostKey.TheVariants as cost
use Rattle.search_base.specs.declared.cost_key.SortKey.{SortKey}
use Rattle.search_base.specs.declared.cost_key.SortKey.TheVariants as sort
use Rattle.search_base.specs.declared.document.Leaf.{Leaf}
use Rattle.search_base.specs.CostOrder.{before}
use Rattle.search_base.specs.RowsView.{RowsView}
use Rattle.search_base.specs.SortKeys.{leaves_under, numbers, texts, sooner, first_by, is_text_less, is_text_greater, key_of}
use Rattle.facet_counts.specs.Counts.{leaves_at}
use Rattle.facet_index.specs.LeavesView.{LeavesView, leaves_of}
use Rattle.facet_index.specs.Batches.{document_at}
use Rattle.facet_index.specs.Sorts.{if_there, entry_at, sort_key, sort_keys_of, is_after, next_of}
use Rattle.list_facets.specs.Ends.{comes_first, key_number, entry_number}
use Rattle.list_facets.specs.Rows.{AreRowsOf}
use Rattle.list_facets.proofs.NumberLemmas.{sooner_of, numbers_in, first_of_more}

-- a sort key as an entry of a direction
abbrev entry : Bool → SortKey → CostKey
entry true key = cost.Up key
entry false key = cost.Down key

-- the first text, in the direction
abbrev text_in : Bool → List Leaf → Option (List ℕ)
text_in true leaves = first_by is_text_less (texts leaves)
text_in false leaves = first_by is_text_greater (texts leaves)

-- the key of a document by its leaves under the path
abbrev end_of : Bool → List Leaf → SortKey
end_of up leaves = key_of (first_by (comes_first up) (numbers leaves)) (text_in up leaves)

there : (key : SortKey) → (if_there cost.Up key ≡ if_there (entry true) key) × (if_there cost.Down key ≡ if_there (entry false) key)
there (sort.Number n) = (refl, refl)
there (sort.Text text) = (refl, refl)
there sort.Missing = (refl, refl)

key_is : (up : Bool) (path : ℕ) (documents : List LeavesView) (rows : ℕ → RowsView) → AreRowsOf rows documents → (d : ℕ)
    → sort_key up path documents d ≡ if_there (entry up) (end_of up (leaves_under path (rows d).leaves))
key_is up path documents rows are d =
    by up (document_at d documents) ∙ ap (λ leaves. if_there (entry up) (end_of up (leaves_under path leaves))) (sym (are d))
  where
    by : (up : Bool) (o : Option LeavesView) → entry_at up path o ≡ if_there (entry up) (end_of up (leaves_under path (leaves_of o)))
    by true None = refl
    by false None = refl
    by true (Some x) = (there (end_of true (leaves_under path x.leaves))).0
    by false (Some x) = (there (end_of false (leaves_under path x.leaves))).1

-- ---- one entry more

-- the number of a key that may be there
abbrev number_of : Option SortKey → Option ℤ
number_of None = None
number_of (Some key) = key_number key

-- the first of a number and of other entries
first_with_number : (up : Bool) (m : ℤ) (j : Option SortKey) → (k : SortKey)
    × ((Some (sooner before (entry up (sort.Number m)) (option_map (entry up) j)) ≡ Some (entry up k))
    × (key_number k ≡ Some (sooner (comes_first up) m (number_of j))))
first_with_number up m None = (sort.Number m, (refl, refl))
first_with_number true m (Some (sort.Number n)) = by (int_lt n m)
  where
    by : (b : Bool) → (k : SortKey)
        × ((Some (cond b (cost.Up (sort.Number n)) (cost.Up (sort.Number m))) ≡ Some (cost.Up k)) × (key_number k ≡ Some (cond b n m)))
    by true = (sort.Number n, (refl, refl))
    by false = (sort.Number m, (refl, refl))
first_with_number false m (Some (sort.Number n)) = by (int_lt m n)
  where
    by : (b : Bool) → (k : SortKey)
        × ((Some (cond b (cost.Down (sort.Number n)) (cost.Down (sort.Number m))) ≡ Some (cost.Down k)) × (key_number k ≡ Some (cond b n m)))
    by true = (sort.Number n, (refl, refl))
    by false = (sort.Number m, (refl, refl))
first_with_number true m (Some (sort.Text text)) = (sort.Number m, (refl, refl))
first_with_number false m (Some (sort.Text text)) = (sort.Number m, (refl, refl))
first_with_number true m (Some sort.Missing) = (sort.Number m, (refl, refl))
first_with_number false m (Some sort.Missing) = (sort.Number m, (refl, refl))

-- the first of a text and of other entries is a number where theirs is
first_with_text : (up : Bool) (text : List ℕ) (j : Option SortKey) → (k : SortKey)
    × ((Some (sooner before (entry up (sort.Text text)) (option_map (entry up) j)) ≡ Some (entry up k)) × (key_number k ≡ number_of j))
first_with_text up text None = (sort.Text text, (refl, refl))
first_with_text true text (Some (sort.Number n)) = (sort.Number n, (refl, refl))
first_with_text false text (Some (sort.Number n)) = (sort.Number n, (refl, refl))
first_with_text true text (Some (sort.Text other)) = by (is_lt (slice_cmp nat_cmp other text))
  where
    by : (b : Bool) → (k : SortKey)
        × ((Some (cond b (cost.Up (sort.Text other)) (cost.Up (sort.Text text))) ≡ Some (cost.Up k)) × (key_number k ≡ None))
    by true = (sort.Text other, (refl, refl))
    by false = (sort.Text text, (refl, refl))
first_with_text false text (Some (sort.Text other)) = by (is_lt (slice_cmp nat_cmp text other))
  where
    by : (b : Bool) → (k : SortKey)
        × ((Some (cond b (cost.Down (sort.Text other)) (cost.Down (sort.Text text))) ≡ Some (cost.Down k)) × (key_number k ≡ None))
    by true = (sort.Text other, (refl, refl))
    by false = (sort.Text text, (refl, refl))
first_with_text true text (Some sort.Missing) = (sort.Text text, (refl, refl))
first_with_text false text (Some sort.Missing) = (sort.Text text, (refl, refl))

-- the first of the entries is of the direction, and has this number or none
abbrev IsFirst : Bool → List CostKey → Option ℤ → Type 0
IsFirst up entries number = (j : Option SortKey) × ((first_by before entries ≡ option_map (entry up) j) × (number_of j ≡ number))

one_more : (up : Bool) (own : Option ℤ) (text : Option (List ℕ)) (entries : List CostKey) (number : Option ℤ) → IsFirst up entries number
    → IsFirst up (cons_option (if_there (entry up) (key_of own text)) entries) (sooner_of up own number)
one_more up (Some m) text entries number rest =
    let k = first_with_number up m rest.0 in (
      Some k.0,
      (
        ap (λ o. Some (sooner before (entry up (sort.Number m)) o)) rest.1.0 ∙ k.1.0,
        k.1.1 ∙ ap (λ n. Some (sooner (comes_first up) m n)) rest.1.1,
      ),
    )
one_more up None (Some text) entries number rest =
    let k = first_with_text up text rest.0 in
    (Some k.0, (ap (λ o. Some (sooner before (entry up (sort.Text text)) o)) rest.1.0 ∙ k.1.0, k.1.1 ∙ rest.1.1))
one_more up None None entries number rest = rest

-- ---- the first entry of documents

first_of : (up : Bool) (path : ℕ) (documents : List LeavesView) (rows : ℕ → RowsView) → AreRowsOf rows documents → (ids : List ℕ)
    → IsFirst up (sort_keys_of up path documents ids) (first_by (comes_first up) (numbers (leaves_at path (map rows ids))))
first_of up path documents rows are [] = (None, (refl, refl))
first_of up path documents rows are (d ∷ ds) =
    let own = leaves_under path (rows d).leaves in
    subst (IsFirst up (sort_keys_of up path documents (d ∷ ds))) (sym (first_of_more up path rows d ds))
    (subst (λ o. IsFirst up (cons_option o (sort_keys_of up path documents ds))
    (sooner_of up (first_by (comes_first up) (numbers_in path (rows d))) (first_by (comes_first up) (numbers (leaves_at path (map rows ds))))))
    (sym (key_is up path documents rows are d))
    (one_more up (first_by (comes_first up) (numbers own)) (text_in up own) (sort_keys_of up path documents ds) _
    (first_of up path documents rows are ds)))

all_after : (entries : List CostKey) → filter (is_after None) entries ≡ entries
all_after [] = refl
all_after (x ∷ xs) = ap (λ rest. x ∷ rest) (all_after xs)

-- the number of an entry that may be there
abbrev pub number_in : Option CostKey → Option ℤ
number_in None = None
number_in (Some entry) = entry_number entry

pub first_number : (up : Bool) (path : ℕ) (documents : List LeavesView) (rows : ℕ → RowsView) → AreRowsOf rows documents
    → (ids : List ℕ) (found : Option CostKey) → found ≡ next_of (sort_keys_of up path documents ids) None
    → number_in found ≡ first_by (comes_first up) (numbers (leaves_at path (map rows ids)))
first_number up path documents rows are ids found is =
    let first = first_of up path documents rows are ids in
    ap number_in (is ∙ ap (first_by before) (all_after (sort_keys_of up path documents ids)) ∙ first.1.0) ∙ says up first.0 ∙ first.1.1
  where
    says : (up : Bool) (j : Option SortKey) → number_in (option_map (entry up) j) ≡ number_of j
    says up None = refl
    says true (Some key) = refl
    says false (Some key) = refl
