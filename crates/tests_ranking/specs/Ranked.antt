-- Whether places have the ranks of their paths.
use Rattle.std.specs.Prelude.{ℕ, ◌==◌, nat_lt, Bool, false, ◌&&◌, List, Option, None, Some}
use Rattle.std.specs.List.{list_all}
use Rattle.search_base.specs.declared.document.Place.{Place}
use Rattle.search_base.specs.RowsView.{RowsView}
use Rattle.posting_sets.specs.Numbers.{rank_at}

-- the rank is there, and below 8
abbrev pub is_rank : ℕ → Option ℕ → Bool
is_rank rank None = false
is_rank rank (Some found) = (found == rank) && nat_lt found 8

abbrev pub is_ranked : List (Option ℕ) → Place → Bool
is_ranked ranks place = is_rank place.rank (rank_at ranks place.path.0)

abbrev pub has_ranks : List (Option ℕ) → RowsView → Bool
has_ranks ranks rows = list_all (is_ranked ranks) rows.places

abbrev pub have_ranks : List (Option ℕ) → List RowsView → Bool
have_ranks ranks all = list_all (has_ranks ranks) all
