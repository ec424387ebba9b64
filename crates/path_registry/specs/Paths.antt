-- The registry of paths: each path once, in the order in which it came. They are numbered in that order, from 0.
use Rattle.std.specs.Prelude.{ℕ, suc, ◌≡◌, Bool, List, [], ◌∷◌, ◌++◌, Option, None, Some, bytes_eq, if◌then◌else◌}
use Rattle.std.specs.List.{list_any}
use Rattle.path_registry.specs.Names.{Names, number_at}

-- whether the path is there
abbrev pub has_path : List ℕ → List (List ℕ) → Bool
has_path path paths = list_any (bytes_eq path) paths

-- the paths, and behind them the path where it is not there yet
abbrev pub with_path : List ℕ → List (List ℕ) → List (List ℕ)
with_path path paths = if has_path path paths then paths else paths ++ path ∷ []

-- the paths, and behind them each new one that is not there yet, in order
abbrev pub registered : List (List ℕ) → List (List ℕ) → List (List ℕ)
registered [] paths = paths
registered (path ∷ new) paths = registered new (with_path path paths)

-- the place of the path, or else the given one
abbrev pub place_or : Option ℕ → Option ℕ → Option ℕ
place_or None place = place
place_or (Some p) place = Some (suc p)

-- the place of the path, the last where it stands more than once
abbrev pub last_place : List ℕ → List (List ℕ) → Option ℕ
last_place path [] = None
last_place path (p ∷ paths) = place_or (last_place path paths) (if bytes_eq p path then Some 0 else None)

-- what a registry holds, how many more paths fit with no memory, and the names that it has a place for
pub record RegistryView : Type 0 where
  pub paths : List (List ℕ)
  pub room : ℕ
  pub places : Names

-- the names are the paths, each with its place
pub record IsRegister (names : Names) (paths : List (List ℕ)) : Type 0 where
  pub each : (path : List ℕ) → number_at path names ≡ last_place path paths
