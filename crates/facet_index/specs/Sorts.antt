-- What documents are sorted by under a path, in a direction.
use Rattle.std.specs.Prelude.{ℕ, Bool, true, false, not, ◌&&◌, List, filter, Option, Some, None}
use Rattle.std.specs.List.{filter_map}
use Rattle.search_base.specs.declared.cost_key.CostKey.{CostKey}
use Rattle.search_base.specs.declared.cost_key.CostKey.TheVariants.{Up, Down}
use Rattle.search_base.specs.declared.cost_key.SortKey.{SortKey}
use Rattle.search_base.specs.declared.cost_key.SortKey.TheVariants.{Missing}
use Rattle.search_base.specs.declared.document.Leaf.{Leaf}
use Rattle.search_base.specs.CostOrder.{before}
use Rattle.search_base.specs.SortKeys.{leaves_under, least_key, greatest_key, first_by}
use Rattle.facet_index.specs.LeavesView.{LeavesView}
use Rattle.facet_index.specs.Batches.{document_at}

-- a sort key as an entry, and none for what is missing
abbrev pub if_there : (SortKey → CostKey) → SortKey → Option CostKey
if_there wrap Missing = None
if_there wrap key = Some (wrap key)

-- the entry of the leaves under a path: the least number, else the least text, or descending the greatest; none where
-- no leaf stands there
abbrev pub sort_entry : Bool → ℕ → List Leaf → Option CostKey
sort_entry true path leaves = if_there Up (least_key (leaves_under path leaves))
sort_entry false path leaves = if_there Down (greatest_key (leaves_under path leaves))

abbrev pub entry_at : Bool → ℕ → Option LeavesView → Option CostKey
entry_at up path None = None
entry_at up path (Some document) = sort_entry up path document.leaves

-- the entry of the document of this number, where it is there and has one
abbrev pub sort_key : Bool → ℕ → List LeavesView → ℕ → Option CostKey
sort_key up path documents id = entry_at up path (document_at id documents)

-- the entries that documents of a universe have
abbrev pub sort_keys_of : Bool → ℕ → List LeavesView → List ℕ → List CostKey
sort_keys_of up path documents universe = filter_map (sort_key up path documents) universe

-- ---- the order of entries

-- whether two entries are one: neither is before the other
abbrev pub same : CostKey → CostKey → Bool
same j k = not (before j k) && not (before k j)

-- whether a document that may have an entry has this one
abbrev pub is_under : CostKey → Option CostKey → Bool
is_under key None = false
is_under key (Some its) = same its key

-- whether an entry comes after another, where there is another
abbrev pub is_after : Option CostKey → CostKey → Bool
is_after None key = true
is_after (Some last) key = before last key

-- the first of the entries after another
abbrev pub next_of : List CostKey → Option CostKey → Option CostKey
next_of keys last = first_by before (filter (is_after last) keys)
