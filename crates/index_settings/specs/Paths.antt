-- Which paths a list of attributes speaks of.
use Rattle.std.specs.Prelude.{ℕ, ◌+◌, List, [], ◌∷◌, length, take, drop, Bool, true, ◌&&◌, ◌||◌, nat_eq, if◌then◌else◌, codes, Option, Some, None}
use Rattle.std.specs.Str.{bytes_eq}
use Rattle.std.specs.List.{list_any}
use Rattle.index_settings.specs.View.{SettingsView}
use Rattle.index_settings.specs.Rules.{rule_of, orders_by}

abbrev pub names : List (List ℕ) → List ℕ → Bool
names entries name = list_any (λ entry. bytes_eq entry name) entries

abbrev pub is_end_or_dot : List ℕ → Bool
is_end_or_dot [] = true
is_end_or_dot (byte ∷ rest) = nat_eq byte 46

-- the path begins with the entry, and ends there or goes on with a dot
abbrev pub covers : List ℕ → List ℕ → Bool
covers path entry = bytes_eq (take (length entry) path) entry && is_end_or_dot (drop (length entry) path)

-- some entry covers the path
abbrev pub is_covered : List (List ℕ) → List ℕ → Bool
is_covered entries path = list_any (covers path) entries

-- the place of the first entry that covers the path, where the entries are counted from n
abbrev pub first_place : ℕ → List ℕ → List (List ℕ) → Option ℕ
first_place n path [] = None
first_place n path (entry ∷ entries) = if covers path entry then Some n else first_place (n + 1) path entries

-- The rank of the path of this number in the registry: that number where `*` is searchable, else the place of the first
-- entry that covers the path; none where the path is not searchable.
abbrev pub rank_of : SettingsView → List ℕ → ℕ → Option ℕ
rank_of s path number =
    if names s.searchable_attributes (codes "*") then Some number
    else first_place 0 path s.searchable_attributes

-- The values at a path are kept for filters and orders: an attribute that may be filtered or sorted by covers it, or a
-- ranking rule orders by exactly it.
abbrev pub is_faceted : SettingsView → List ℕ → Bool
is_faceted s path =
    is_covered s.filterable_attributes path || (is_covered s.sortable_attributes path
    || list_any (λ text. orders_by path (rule_of text)) s.ranking_rules)

-- a hit shows the top-level member of this name
abbrev pub is_displayed : SettingsView → List ℕ → Bool
is_displayed s name = names s.displayed_attributes (codes "*") || names s.displayed_attributes name
