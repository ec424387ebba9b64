-- The entry of a document under a rule, whether the query matches it or not.
use Rattle.std.specs.Prelude.{ℕ, Bool, ◌==◌, true, false, List, length, slice_get, Option, Some, None, unwrap_or, is_some}
use Rattle.search_base.specs.declared.cost_key.CostKey.{CostKey}
use Rattle.search_base.specs.declared.cost_key.CostKey.TheVariants.{Number, Up, Down}
use Rattle.search_base.specs.declared.cost_key.SortKey.{SortKey}
use Rattle.search_base.specs.declared.cost_key.SortKey.TheVariants.{Missing}
use Rattle.search_base.specs.declared.document.Leaf.{Leaf}
use Rattle.search_base.specs.declared.document.Place.{Place}
use Rattle.search_base.specs.declared.rule.Rule.{Rule}
use Rattle.search_base.specs.declared.rule.Rule.TheVariants.{Words}
use Rattle.search_base.specs.GraphView.{GraphView}
use Rattle.search_base.specs.RowsView.{RowsView}
use Rattle.search_base.specs.SortKeys.{leaves_under, least_key, greatest_key}
use Rattle.search_base.specs.Tuple.{cost_of, entry}

-- the number of the first level that matches, and that behind the last where none does
abbrev pub level_of : List Place → GraphView → ℕ
level_of places graph = unwrap_or (cost_of places graph.levels) (length graph.levels)

-- the query matches
abbrev pub is_match : RowsView → GraphView → Bool
is_match rows graph = is_some (cost_of rows.places graph.levels)

-- the entry under a rule
abbrev pub entry_of : RowsView → GraphView → Rule → CostKey
entry_of rows graph rule = entry rows graph (level_of rows.places graph) rule

-- the entry under the rule at a place of the list of rules
abbrev pub entry_at : RowsView → GraphView → List Rule → ℕ → CostKey
entry_at rows graph rules at = entry_of rows graph (unwrap_or (slice_get rules at) Words)

-- a sort key as an entry, and none for what is missing
abbrev pub if_there : (SortKey → CostKey) → SortKey → Option CostKey
if_there wrap Missing = None
if_there wrap key = Some (wrap key)

-- the entry of the leaves under a path, in a direction; none where no leaf stands there
abbrev pub sort_entry : Bool → ℕ → List Leaf → Option CostKey
sort_entry true path leaves = if_there Up (least_key (leaves_under path leaves))
sort_entry false path leaves = if_there Down (greatest_key (leaves_under path leaves))

-- the entry of documents without a key
abbrev pub missing_entry : Bool → CostKey
missing_entry true = Up Missing
missing_entry false = Down Missing

-- what gives documents their entries: an index, a query and a rule
pub record QueryView (S : Type 0) : Type 0 where
  pub source : S
  pub graph : GraphView
  pub rule : Rule

-- the entry of a document, where `rows` are those of an index
abbrev pub entry_in : {S : Type 0} → (S → ℕ → RowsView) → QueryView S → ℕ → CostKey
entry_in rows query d = entry_of (rows query.source d) query.graph query.rule

-- the documents that a stream of buckets has not given yet, and what gives them their entries
pub record StreamView (S : Type 0) : Type 0 where
  pub query : QueryView S
  pub remaining : List ℕ

-- the same of the buckets of a rule, and whether memory has run out
pub record BucketsView (S : Type 0) : Type 0 where
  pub query : QueryView S
  pub remaining : List ℕ
  pub failed : Bool

-- the entry is this cost
abbrev pub is_entry : ℕ → CostKey → Bool
is_entry cost (Number n) = n == cost
is_entry cost (Up key) = false
is_entry cost (Down key) = false
