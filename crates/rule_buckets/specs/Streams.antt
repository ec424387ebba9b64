-- The levels of a query as streams of costs, and what is known of each.
use Rattle.std.specs.Prelude.{ℕ, ◌≡◌, ◌<◌, ◌≤◌, Bool, ◌||◌, ◌==◌, if◌then◌else◌, true, List, [], ◌∷◌, length, flat_map, Option, Some, None, IfSome, is_some}
use Rattle.std.specs.Option.{option_map}
use Rattle.std.specs.List.{list_any}
use Rattle.search_base.specs.declared.cost_key.CostKey.{CostKey}
use Rattle.search_base.specs.declared.cost_key.CostKey.TheVariants.{Number}
use Rattle.search_base.specs.RowsView.{RowsView}
use Rattle.condition_graph.specs.EdgesView.{EdgesView}
use Rattle.condition_graph.specs.Meets.{meets}
use Rattle.doc_sets.specs.Sets.{has, union_all}
use Rattle.doc_sets.specs.SetView.{SetView}
use Rattle.path_costs.specs.Costs.{cost_of}
use Rattle.rule_buckets.specs.Entries.{QueryView, entry_in}

-- a stream: an index and the conditions of a level, the documents of the cost that comes next where it is known, and
-- the others
pub record LevelCostsView (S : Type 0) : Type 0 where
  pub source : S
  pub graph : EdgesView
  pub ahead : Option (ℕ × SetView)
  pub rest : List ℕ

-- the cost of a document, where `rows` are those of an index
abbrev pub cost_in : {S : Type 0} → (S → ℕ → RowsView) → LevelCostsView S → ℕ → Option ℕ
cost_in rows s = cost_of (λ condition d. meets (rows s.source d).places condition) s.graph

-- the documents that come next
abbrev pub ahead_ids : Option (ℕ × SetView) → List ℕ
ahead_ids None = []
ahead_ids (Some next) = next.1.ids

-- one of the documents of a stream
abbrev pub is_among : Option (ℕ × SetView) → List ℕ → ℕ → Bool
is_among ahead rest d = has (ahead_ids ahead) d || has rest d

abbrev pub is_member : {S : Type 0} → LevelCostsView S → ℕ → Bool
is_member s d = is_among s.ahead s.rest d

-- one of the documents of some streams
abbrev pub is_in_any : {S : Type 0} → List (LevelCostsView S) → ℕ → Bool
is_in_any streams d = list_any (λ s. is_member s d) streams

-- the documents of some streams
abbrev pub remaining_in : {S : Type 0} → List (LevelCostsView S) → List ℕ
remaining_in streams = union_all (flat_map (λ s. ahead_ids s.ahead ∷ (s.rest ∷ [])) streams)

-- what comes next has a cost, and what remains behind it a greater one
pub record IsNext (cost : ℕ → Option ℕ) (rest : List ℕ) (next : ℕ × SetView) : Type 0 where
  pub some : 0 < length next.1.ids
  pub here : (d : ℕ) → has next.1.ids d ≡ true → cost d ≡ Some next.0
  pub later : (d x : ℕ) → has rest d ≡ true → cost d ≡ Some x → next.0 < x

-- the cost of each document is its entry
pub record IsCosts (entry : ℕ → CostKey) (cost : ℕ → Option ℕ) (ahead : Option (ℕ × SetView)) (rest : List ℕ) : Type 0 where
  pub known : (d : ℕ) → is_among ahead rest d ≡ true → (x : ℕ) × (cost d ≡ Some x) × (entry d ≡ Number x)
  pub next : IfSome ahead (IsNext cost rest)

abbrev pub IsStream : {S : Type 0} → (S → ℕ → RowsView) → QueryView S → LevelCostsView S → Type 0
IsStream rows query s = IsCosts (entry_in rows query) (cost_in rows s) s.ahead s.rest

-- the same, where it is known what comes next
abbrev pub IsReady : {S : Type 0} → (S → ℕ → RowsView) → QueryView S → LevelCostsView S → Type 0
IsReady rows query s = IsStream rows query s × (is_some s.ahead ≡ true)

-- what comes next costs at least as much
abbrev pub ComesFrom : {S : Type 0} → ℕ → LevelCostsView S → Type 0
ComesFrom least s = IfSome s.ahead (λ next. least ≤ next.0)

-- the cost that comes next
abbrev pub next_cost : {S : Type 0} → LevelCostsView S → Option ℕ
next_cost s = option_map (λ next. next.0) s.ahead

-- what comes next at exactly this cost
abbrev pub taken_at : ℕ → Option (ℕ × SetView) → List ℕ
taken_at cost None = []
taken_at cost (Some next) = if next.0 == cost then next.1.ids else []

-- what comes next, unless it costs exactly this
abbrev pub left_at : ℕ → Option (ℕ × SetView) → Option (ℕ × SetView)
left_at cost None = None
left_at cost (Some next) = if next.0 == cost then None else Some next

-- the stream without what comes next at exactly this cost
abbrev pub without : {S : Type 0} → ℕ → LevelCostsView S → LevelCostsView S
without cost s = record { source = s.source; graph = s.graph; ahead = left_at cost s.ahead; rest = s.rest }
