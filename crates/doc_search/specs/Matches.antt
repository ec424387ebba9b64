-- The documents that pass a filter and that a query matches, each with its costs.
use Rattle.std.specs.Prelude.{ℕ, Bool, List, map, filter, Option, None, if◌then◌else◌}
use Rattle.std.specs.Option.{option_map}
use Rattle.std.specs.List.{filter_map}
use Rattle.search_base.specs.declared.rule.Rule.{Rule}
use Rattle.search_base.specs.GraphView.{GraphView}
use Rattle.search_base.specs.Hits.{Match}
use Rattle.search_base.specs.RowsView.{RowsView}
use Rattle.search_base.specs.Tuple.{tuple}
use Rattle.doc_sets.specs.Sets.{IsIncreasing}
use Rattle.bucket_sort.specs.declared.log.Opening.{Opening}
use Rattle.row_index.specs.Documents.{IndexedDocument}
use Rattle.rule_buckets.specs.Matches.{match_at}
use Rattle.rule_buckets.specs.Matches as lists
use Rattle.doc_search.specs.Rows.{rows_at}

-- the documents are in the order of their ids, and no two have one
abbrev pub AreInOrder : List IndexedDocument → Type 0
AreInOrder documents = IsIncreasing (map (λ document. document.id) documents)

-- the match of a document, where it passes and the query matches it
abbrev pub match_of : (RowsView → Bool) → GraphView → List Rule → IndexedDocument → Option Match
match_of passes query rules document =
    option_map (match_at document.id) (if passes document.rows then tuple document.rows query rules else None)

-- the matches among documents, in their order
abbrev pub matches_among : (RowsView → Bool) → GraphView → List Rule → List IndexedDocument → List Match
matches_among passes query rules documents = filter_map (match_of passes query rules) documents

-- the ids of the documents that pass
abbrev pub passing : (RowsView → Bool) → List IndexedDocument → List ℕ
passing passes documents = map (λ document. document.id) (filter (λ document. passes document.rows) documents)

-- the buckets that a search opens on its way to the asked hits
abbrev pub opened : (RowsView → Bool) → GraphView → List Rule → List IndexedDocument → ℕ → ℕ → List Opening
opened passes query rules documents = lists.opened (rows_at documents) query rules (passing passes documents)
