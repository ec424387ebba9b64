-- The documents of a universe by the number of a condition.
use Rattle.std.specs.Prelude.{ℕ, ◌≡◌, ◌==◌, Bool, List, [], ◌∷◌, filter, if◌then◌else◌}
use Rattle.doc_sets.specs.SetView.{SetView}
use Rattle.condition_graph.specs.declared.condition.Condition.{Condition}
use Rattle.condition_graph.specs.Numbers.{at_number}
use Rattle.condition_graph.specs.Promise.{IsCondition}

-- the set at a number, which is empty where there is none
abbrev pub set_at : ℕ → List (ℕ × SetView) → List ℕ
set_at n [] = []
set_at n (row ∷ rows) = if row.0 == n then row.1.ids else set_at n rows

-- for each number of which there is such a condition, the set at it has the documents of the universe that meet this
abbrev pub AreByNumber : (Condition → ℕ → Bool) → Condition → List ℕ → List (ℕ × SetView) → Type 0
AreByNumber meets condition universe rows =
    (n : ℕ) → IsCondition (at_number n condition) → set_at n rows ≡ filter (meets (at_number n condition)) universe
