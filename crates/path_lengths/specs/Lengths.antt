-- How long the paths of a document are.
use Rattle.std.specs.Prelude.{ℕ, ◌+◌, ◌==◌, nat_le, Bool, not, ◌&&◌, ◌||◌, List}
use Rattle.std.specs.List.{list_any, list_all}
use Rattle.search_base.specs.declared.document.Place.{Place}

-- no word of the path stands behind this one
abbrev pub is_last : List Place → Place → Bool
is_last places place =
    list_all (λ other. not (other.path.0 == place.path.0) || nat_le other.position place.position) places

-- the last word of the path stands at the position before the length. A path without a word has no length
abbrev pub has_length : List Place → ℕ → ℕ → Bool
has_length places path length =
    list_any (λ place. is_last places place && ((place.path.0 == path) && (place.position + 1 == length))) places
