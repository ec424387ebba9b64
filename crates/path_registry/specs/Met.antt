-- The paths of documents that come, before it is known to which registry.
use Rattle.std.specs.Prelude.{◌≡◌, ◌≤◌, ℕ, false, List, [], ◌∷◌, length}
use Rattle.serde_json.specs.Data.{Data}
use Rattle.doc_values.specs.Walk.{paths_of}
use Rattle.path_registry.specs.Paths.{registered}
use Rattle.path_registry.specs.declared.met.MetPaths.{MetPaths}

-- the paths after documents that come one after the other
abbrev pub all_registered : List Data → List (List ℕ) → List (List ℕ)
all_registered [] paths = paths
all_registered (d ∷ ds) paths = all_registered ds (registered (paths_of d) paths)

-- these are the paths of the documents, unless there are too many
pub record AreMet (documents : List Data) (m : MetPaths) : Type 0 where
  pub paths : m.spent ≡ false → m.met.paths ≡ all_registered documents []
  pub few : m.spent ≡ false → length m.met.paths ≤ 1000
