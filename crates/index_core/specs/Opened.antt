-- The buckets that a search opens on its way to its hits.
use Rattle.std.specs.Prelude.{ℕ, ◌*◌, min, List, [], length, map, slice_get, option_and_then, unwrap_or, Option}
use Rattle.search_base.specs.declared.cost_key.CostKey.{CostKey}
use Rattle.search_base.specs.declared.cost_key.CostKey.TheVariants.{Number}
use Rattle.search_base.specs.CostOrder.{before}
use Rattle.search_call.specs.SearchView.{SearchView}
use Rattle.bucket_sort.specs.declared.log.Opening.{Opening}
use Rattle.bucket_sort.specs.Trace.{trace}
use Rattle.doc_store.specs.Store.{row_at}
use Rattle.search_settings.specs.SearchFaults.{search_fault}
use Rattle.index_changes.specs.Index.{Index}
use Rattle.index_core.specs.Matching.{costs_in, matching, rules_in}
use Rattle.index_core.specs.Looked.{looked_at, unless_refused}

-- the costs of the document with an internal id, where it matches
abbrev pub costs_at : Index → SearchView → ℕ → Option (List CostKey)
costs_at index call id = option_and_then (λ row. costs_in index call row.document) (row_at id index.store.rows)

-- of these the entry that a level asks for
abbrev pub entry_at : Index → SearchView → ℕ → ℕ → CostKey
entry_at index call level id =
    unwrap_or (option_and_then (λ costs. slice_get costs level) (costs_at index call id)) (Number 0)

-- the buckets on the way to the documents that are looked at, each of documents that agree in all entries up to its
-- level
abbrev pub opened_in : Index → SearchView → List Opening
opened_in index call =
    let looked = looked_at index call in
    trace before (entry_at index call) (length (rules_in index call)) (map (λ m. m.row.id) (matching index call))
    looked.start looked.end

-- a search that is refused opens none
abbrev pub opened : Index → SearchView → List Opening
opened index call = unless_refused (search_fault index.settings call) (opened_in index call) []

-- so many buckets are opened at most: one a level and match, up to the last document that is looked at
abbrev pub most_opened : Index → SearchView → ℕ
most_opened index call = unless_refused (search_fault index.settings call)
    (length (rules_in index call) * min (looked_at index call).end (length (matching index call))) 0
