-- Members of an object by their names.
use Rattle.std.specs.Prelude.{ℕ, List, Bool, ◌||◌, codes, bytes_eq, if◌then◌else◌}
use Rattle.std.specs.List.{list_any}
use Rattle.serde_json.specs.Data.{Members, no_members, member}

abbrev pub is_among : List (List ℕ) → List ℕ → Bool
is_among names name = list_any (λ n. bytes_eq n name) names

-- `*` shows every name
abbrev pub is_shown : List (List ℕ) → List ℕ → Bool
is_shown names name = is_among names (codes "*") || is_among names name

-- the members whose names pass a test, in their order
abbrev pub members_by : (List ℕ → Bool) → Members → Members
members_by test no_members = no_members
members_by test (member name d ms) = if test name then member name d (members_by test ms) else members_by test ms

-- the members of these names
abbrev pub shown_members : List (List ℕ) → Members → Members
shown_members names ms = members_by (is_shown names) ms
