-- The entries that documents are sorted by.
use Rattle.std.specs.Prelude.{ℕ, Bool, List}
use Rattle.std.specs.List.{filter_map}
use Rattle.search_base.specs.declared.cost_key.CostKey.{CostKey}
use Rattle.rule_buckets.specs.Entries.{sort_entry}
use Rattle.row_index.specs.Documents.{IndexedDocument}

-- the entries that documents have under a path, in a direction
abbrev pub sort_keys : Bool → ℕ → List IndexedDocument → List CostKey
sort_keys up path documents = filter_map (λ document. sort_entry up path document.rows.leaves) documents
