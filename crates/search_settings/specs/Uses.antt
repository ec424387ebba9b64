-- How settings use the paths of a registry.
use Rattle.std.specs.Prelude.{ℕ, ◌+◌, ◌==◌, ◌&&◌, Bool, true, false, List, [], ◌∷◌, Option, None, Some}
use Rattle.std.specs.Bool.{beq}
use Rattle.std.specs.Cmp.Lexicographic.{pointwise}
use Rattle.doc_rows.specs.declared.path_use.PathUse.{PathUse}
use Rattle.index_settings.specs.Paths.{rank_of, is_faceted}
use Rattle.index_settings.specs.View.{SettingsView}

-- how the settings use the path of this number in the registry: its rank where it is searched, and whether its values
-- count
abbrev pub use_of : SettingsView → List ℕ → ℕ → PathUse
use_of settings path number = record { rank = rank_of settings path number; faceted = is_faceted settings path }

-- how the settings use each path, of which the first has this number in the registry
abbrev pub uses_from : SettingsView → ℕ → List (List ℕ) → List PathUse
uses_from settings number [] = []
uses_from settings number (path ∷ paths) = use_of settings path number ∷ uses_from settings (number + 1) paths

abbrev pub same_rank : Option ℕ → Option ℕ → Bool
same_rank None None = true
same_rank None (Some n) = false
same_rank (Some m) None = false
same_rank (Some m) (Some n) = m == n

abbrev pub same_use : PathUse → PathUse → Bool
same_use a b = same_rank a.rank b.rank && beq a.faceted b.faceted

-- both settings use each of these paths alike
abbrev pub use_alike : SettingsView → SettingsView → List (List ℕ) → Bool
use_alike s t paths = pointwise same_use (uses_from s 0 paths) (uses_from t 0 paths)
