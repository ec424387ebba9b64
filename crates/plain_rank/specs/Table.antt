-- The least sums from each block on.
use Rattle.std.specs.Prelude.{ℕ, ◌-◌, ◌==◌, nat_le, List, [], ◌∷◌, map, Option, None, if◌then◌else◌}
use Rattle.search_base.specs.declared.document.Place.{Place}
use Rattle.search_base.specs.declared.query.PlacedBlock.{PlacedBlock}
use Rattle.search_base.specs.declared.rule.Rule.{Rule}
use Rattle.search_base.specs.Least.{lesser}
use Rattle.search_base.specs.LeastSums.{sum_from}

-- the sum of a block that begins at `at` or later
abbrev pub known_sum : Rule → List Place → ℕ → List PlacedBlock → ℕ → PlacedBlock → Option ℕ
known_sum rule places items blocks at placed =
    if nat_le at placed.from then sum_from rule places items blocks (items - placed.to) placed else None

-- for each block its sum, where it begins at `at` or later
abbrev pub table : Rule → List Place → ℕ → List PlacedBlock → ℕ → List (Option ℕ)
table rule places items blocks at = map (known_sum rule places items blocks at) blocks

-- the least of the sums of blocks that begin at the start
abbrev pub least_at_start : List PlacedBlock → List (Option ℕ) → Option ℕ
least_at_start [] sums = None
least_at_start (placed ∷ blocks) [] = None
least_at_start (placed ∷ blocks) (sum ∷ sums) =
    lesser (if placed.from == 0 then sum else None) (least_at_start blocks sums)
