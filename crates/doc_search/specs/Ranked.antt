-- The ranks of paths as they are used.
use Rattle.std.specs.Prelude.{ℕ, ◌<◌, List, map, Option}
use Rattle.std.specs.Option.{IfSome}
use Rattle.std.specs.List.{AllByRecursion}
use Rattle.doc_rows.specs.declared.path_use.PathUse.{PathUse}

-- the rank of each path, where it has one
abbrev pub ranks_of : List PathUse → List (Option ℕ)
ranks_of uses = map (λ path_use. path_use.rank) uses

-- each rank is below a number
abbrev pub RankedBelow : ℕ → List PathUse → Type 0
RankedBelow bound uses = AllByRecursion (λ path_use. IfSome path_use.rank (λ rank. rank < bound)) uses
