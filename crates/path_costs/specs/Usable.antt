-- The edges that a document of a universe may take, so far as it is known.
use Rattle.std.specs.Prelude.{ℕ, ◌≡◌, ◌==◌, Bool, not, ◌||◌, List, filter, length, is_none, IfSome}
use Rattle.condition_graph.specs.declared.condition.Condition.{Condition}
use Rattle.condition_graph.specs.declared.graph.ConditionEdge.{ConditionEdge}
use Rattle.condition_graph.specs.Numbers.{number_of}
use Rattle.path_costs.specs.declared.usable.Numbered.{Numbered}
use Rattle.path_costs.specs.declared.usable.Usable.{Usable}
use Rattle.path_costs.specs.Found.{AreMet}
use Rattle.path_costs.specs.Sets.{AreByNumber}

-- the sets of a condition are right
abbrev pub IsNumbered : (Condition → ℕ → Bool) → List ℕ → Numbered → Type 0
IsNumbered meets universe numbered = AreByNumber meets numbered.condition universe numbered.rows.items

-- the edge has a condition that is none on a number, or a document of the universe meets it
abbrev pub is_usable : (Condition → ℕ → Bool) → List ℕ → ConditionEdge → Bool
is_usable meets universe edge =
    is_none (number_of edge.condition) || not (length (filter (meets edge.condition) universe) == 0)

-- a place for each edge, where what is known is right, and so are the last sets
pub record AreKnown (meets : Condition → ℕ → Bool) (universe : List ℕ) (usable : Usable) : Type 0 where
  pub met : AreMet meets usable.edges.items universe usable.met.items
  pub count : length usable.met.items ≡ length usable.edges.items
  pub last : IfSome usable.last (IsNumbered meets universe)
