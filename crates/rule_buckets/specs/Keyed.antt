-- Documents under the entries of a rule on values, or of the one on whole attributes.
use Rattle.std.specs.Prelude.{ℕ, Bool, if◌then◌else◌, nat_lt, true, false, List, [], ◌∷◌, Option, Some, None}
use Rattle.search_base.specs.declared.cost_key.CostKey.{CostKey}
use Rattle.search_base.specs.declared.cost_key.CostKey.TheVariants.{Number, Up as UpKey, Down as DownKey}
use Rattle.search_base.specs.declared.rule.Rule.{Rule}
use Rattle.search_base.specs.declared.rule.Rule.TheVariants.{Whole, Up, Down}
use Rattle.search_base.specs.RowsView.{RowsView}
use Rattle.search_base.specs.Whole.{whole_cost}
use Rattle.rule_buckets.specs.declared.keyed.KeyKind.{KeyKind}
use Rattle.rule_buckets.specs.declared.keyed.KeyKind.TheVariants.{Whole as ByWhole, Values, Nothing}
use Rattle.rule_buckets.specs.Entries.{QueryView, sort_entry, missing_entry}

-- what documents are known by under a rule
abbrev pub key_kind : Rule → KeyKind
key_kind Whole = ByWhole
key_kind (Up (Some path)) = Values path true
key_kind (Down (Some path)) = Values path false
key_kind _ = Nothing

-- the costs of whole attributes that documents are known by
abbrev pub whole_keys : List CostKey
whole_keys = Number 0 ∷ (Number 1 ∷ [])

-- the cost that an entry is, where documents are known by it
abbrev pub known_cost : CostKey → Option ℕ
known_cost (Number n) = if nat_lt n 2 then Some n else None
known_cost (UpKey key) = None
known_cost (DownKey key) = None

-- the entries by which documents are known
abbrev pub keys_by : (Bool → ℕ → List CostKey) → KeyKind → List CostKey
keys_by keys ByWhole = whole_keys
keys_by keys (Values path up) = keys up path.0
keys_by keys Nothing = []

abbrev pub keys_of : (Bool → ℕ → List CostKey) → Rule → List CostKey
keys_of keys rule = keys_by keys (key_kind rule)

abbrev pub whole_key : ℕ → Option CostKey
whole_key cost = if nat_lt cost 2 then Some (Number cost) else None

-- the entry of a document, where it is not that of documents without a key
abbrev pub key_by : RowsView → List (List ℕ) → KeyKind → Option CostKey
key_by rows whole ByWhole = whole_key (whole_cost rows.places whole)
key_by rows whole (Values path up) = sort_entry up path.0 rows.leaves
key_by rows whole Nothing = None

abbrev pub key_in : {S : Type 0} → (S → ℕ → RowsView) → QueryView S → ℕ → Option CostKey
key_in rows query d = key_by (rows query.source d) query.graph.whole (key_kind query.rule)

-- the entry of documents without a key
abbrev pub missing_of : Rule → CostKey
missing_of (Up path) = missing_entry true
missing_of (Down path) = missing_entry false
missing_of _ = Number 2
