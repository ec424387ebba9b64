-- The entries that a facet index answers are those of the rows.
use Rattle.std.proofs.Common.{◌≡◌, ℕ, ◌==◌, Bool, true, false, cond, List, [], ◌∷◌, map, filter, Option, None, Some, IfSome, IfNone, refl, ap, ap₂, ◌∙◌}
use Rattle.std.specs.List.{cons_option, filter_map}
use Rattle.std.proofs.lemmas.List.Elements.{filter_agree}
use Rattle.search_base.specs.declared.cost_key.CostKey.{CostKey}
use Rattle.search_base.specs.declared.cost_key.CostKey.TheVariants.{Up, Down}
use Rattle.search_base.specs.declared.cost_key.SortKey.{SortKey}
use Rattle.search_base.specs.declared.cost_key.SortKey.TheVariants as sort
use Rattle.search_base.specs.declared.document.Leaf.{Leaf}
use Rattle.search_base.specs.CostOrder.{before}
use Rattle.search_base.specs.SortKeys.{leaves_under, least_key, greatest_key, first_by}
use Rattle.sort_rule.specs.Rows.{is_after, next_of, is_under, IsNextFor, HasNoneAfter}
use Rattle.sort_rule.proofs.SortLemmas.{next-for}
use Rattle.facet_index.specs.Batches as batches
use Rattle.facet_index.specs.Sorts.{entry_at, sort_key, sort_keys_of}
use Rattle.facet_index.specs.Sorts as facets
use Rattle.rule_buckets.specs.Entries.{if_there, sort_entry}
use Rattle.row_index.specs.Documents.{IndexedDocument, document_at}
use Rattle.row_index.specs.Standing.{faceted}
use Rattle.doc_search.specs.Entries.{sort_keys}
use Rattle.doc_search.specs.Laws.{sorted_at}
use Rattle.doc_search.specs.Rows.{rows_of, rows_at}

-- ---- one word for both

there_same : (wrap : SortKey → CostKey) (key : SortKey) → facets.if_there wrap key ≡ if_there wrap key
there_same wrap (sort.Number n) = refl
there_same wrap (sort.Text text) = refl
there_same wrap sort.Missing = refl

pub entry_same : (up : Bool) (path : ℕ) (leaves : List Leaf) → facets.sort_entry up path leaves ≡ sort_entry up path leaves
entry_same true path leaves = there_same Up (least_key (leaves_under path leaves))
entry_same false path leaves = there_same Down (greatest_key (leaves_under path leaves))

under_same : (at : CostKey) (its : Option CostKey) → facets.is_under at its ≡ is_under at its
under_same at None = refl
under_same at (Some key) = refl

after_same : (last : Option CostKey) (key : CostKey) → facets.is_after last key ≡ is_after last key
after_same None key = refl
after_same (Some k) key = refl

next_same : (keys : List CostKey) (last : Option CostKey) → facets.next_of keys last ≡ next_of keys last
next_same keys last = ap (first_by before) (filter_agree (facets.is_after last) (is_after last) (after_same last) keys)

-- ---- the entries of documents

-- a document without rows has no entry
nothing_there : (up : Bool) (path : ℕ) → None ≡ sort_entry up path []
nothing_there true path = refl
nothing_there false path = refl

-- the entry of the document of an id is that of its rows
key_same : (up : Bool) (path : ℕ) (documents : List IndexedDocument) (d : ℕ)
    → sort_key up path (map faceted documents) d ≡ sort_entry up path (rows_at documents d).leaves
key_same up path [] d = nothing_there up path
key_same up path (x ∷ xs) d = by (x.id == d) (key_same up path xs d)
  where
    by : (b : Bool) → sort_key up path (map faceted xs) d ≡ sort_entry up path (rows_at xs d).leaves
        → entry_at up path (cond b (Some (faceted x)) (batches.document_at d (map faceted xs)))
        ≡ sort_entry up path (rows_of (cond b (Some x) (document_at d xs))).leaves
    by true later = entry_same up path x.rows.leaves
    by false later = later

-- those under an entry
pub under : (documents : List IndexedDocument) (up : Bool) (path : ℕ) (at : CostKey) (universe ids : List ℕ)
    → ids ≡ filter (λ d. facets.is_under at (sort_key up path (map faceted documents) d)) universe
    → ids ≡ filter (λ d. is_under at (sort_entry up path (rows_at documents d).leaves)) universe
under documents up path at universe ids is = is
    ∙ filter_agree (λ d. facets.is_under at (sort_key up path (map faceted documents) d)) (λ d. is_under at (sort_entry up path (rows_at documents d).leaves))
    (λ d. under_same at (sort_key up path (map faceted documents) d) ∙ ap (is_under at) (key_same up path documents d)) universe

-- the entries of a universe
entries_same : (documents : List IndexedDocument) (up : Bool) (path : ℕ) (universe : List ℕ)
    → sort_keys_of up path (map faceted documents) universe ≡ filter_map (λ d. sort_entry up path (rows_at documents d).leaves) universe
entries_same documents up path [] = refl
entries_same documents up path (d ∷ ds) = ap₂ cons_option (key_same up path documents d) (entries_same documents up path ds)

-- the one that comes next
pub next_for : (documents : List IndexedDocument) (up : Bool) (path : ℕ) (universe : List ℕ) (last found : Option CostKey)
    → found ≡ facets.next_of (sort_keys_of up path (map faceted documents) universe) last
    → IfSome found (IsNextFor (sort_keys up path documents) (λ d. sort_entry up path (rows_at documents d).leaves) universe last)
    × IfNone found (HasNoneAfter (λ d. sort_entry up path (rows_at documents d).leaves) universe last)
next_for documents up path universe last found is =
    next-for (λ d. sort_entry up path (rows_at documents d).leaves) (sort_keys up path documents) (sorted_at up path documents).known
    universe last found
    (is ∙ next_same (sort_keys_of up path (map faceted documents) universe) last ∙ ap (λ keys. next_of keys last) (entries_same documents up path universe))
