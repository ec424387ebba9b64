-- Added members of a hit as the code puts them among the others.
use Rattle.std.specs.Prelude.{◌≡◌, ℕ, List, [], ◌∷◌, map, Bool, not, ◌&&◌, codes}
use Rattle.std.specs.Ordering.{nat_cmp}
use Rattle.std.specs.declared.cmp.Ordering.TheVariants.{Less}
use Rattle.std.specs.Cmp.Lexicographic.{slice_cmp}
use Rattle.serde_json.specs.Data.{Data, Members, put}
use Rattle.serde_json.specs.View.{members_view}
use Rattle.search_replies.specs.declared.added.Added.{Added}
use Rattle.search_replies.specs.declared.added.Added.TheVariants.{Costs, Formatted, Positions}
use Rattle.search_replies.specs.declared.names.Names.{Names}
use Rattle.search_replies.specs.declared.own.Own.{Own}
use Rattle.search_replies.specs.Costs.{costs_data}
use Rattle.search_replies.specs.Formatted.{formatted_data}
use Rattle.search_replies.specs.Members.{is_among, members_by}
use Rattle.search_replies.specs.Names.{shows}
use Rattle.search_replies.specs.Positions.{positions_data}

abbrev pub added_name : Added → List ℕ
added_name (Costs costs) = codes "_costs"
added_name (Formatted marks) = codes "_formatted"
added_name (Positions marks) = codes "_matchesPosition"

-- what such a member holds, where the hit has these members from its document
abbrev pub added_data : Members → Added → Data
added_data own (Costs costs) = costs_data costs.now
added_data own (Formatted marks) = formatted_data marks.now.terms marks.now.formats own
added_data own (Positions marks) = positions_data marks.now.terms own

-- the names that are shown and not added
abbrev pub owns : Names → List Added → List ℕ → Bool
owns names added name = shows names name && not (is_among (map added_name added) name)

-- the members that a hit has from its document
abbrev pub members_of : Own → Members
members_of own = members_by (owns own.names.now own.added.now) (members_view own.members.now.entries)

-- members with those that still wait for their place
abbrev pub with_waiting : Members → List Added → Members → Members
with_waiting own [] ms = ms
with_waiting own (added ∷ waiting) ms = put (added_name added) (added_data own added) (with_waiting own waiting ms)

-- a name stands before those of all of them
abbrev pub IsBefore : List ℕ → List Added → Type 0
IsBefore name [] = Unit {0}
IsBefore name (added ∷ waiting) = (slice_cmp nat_cmp name (added_name added) ≡ Less) × IsBefore name waiting

abbrev pub AreInOrder : List Added → Type 0
AreInOrder [] = Unit {0}
AreInOrder (added ∷ waiting) = IsBefore (added_name added) waiting × AreInOrder waiting
