-- Which members of a document a request is shown, and what a search adds to them.
use Rattle.std.specs.Prelude.{ℕ, List, [], ◌∷◌, ◌++◌, map, Bool, not, codes, is_some, Option, Some, None, if◌then◌else◌}
use Rattle.std.specs.Option.{option_map}
use Rattle.serde_json.specs.Data.{Data, object, Members, put}
use Rattle.doc_values.specs.Walk.{members_in}
use Rattle.search_base.specs.TermView.{TermView}
use Rattle.search_base.specs.declared.cost_key.CostKey.{CostKey}
use Rattle.search_call.specs.FormatView.{FormatView, formats_texts}
use Rattle.search_call.specs.SearchView.{SearchView}
use Rattle.search_result.specs.View.{HitView}
use Rattle.search_replies.specs.declared.display.Display.{Display}
use Rattle.search_replies.specs.Costs.{costs_data}
use Rattle.search_replies.specs.Formatted.{formatted_data}
use Rattle.search_replies.specs.Members.{is_among, members_by, shown_members}
use Rattle.search_replies.specs.Names.{shows}
use Rattle.search_replies.specs.Positions.{positions_data}

-- a document by its top members
abbrev pub shown : List (List ℕ) → Data → Data
shown names d = object (shown_members names (members_in d))

abbrev pub all_shown : List (List ℕ) → List Data → List Data
all_shown names ds = map (shown names) ds

-- ---- hits

-- a list of one, where something holds
abbrev pub one_if : {A : Type 0} → Bool → A → List A
one_if holds x = if holds then x ∷ [] else []

-- the members that a hit has beside those of its document
abbrev pub added_names : FormatView → Option (List CostKey) → List (List ℕ)
added_names formats costs =
    one_if (is_some costs) (codes "_costs")
    ++ (one_if (formats_texts formats) (codes "_formatted") ++ one_if formats.positions (codes "_matchesPosition"))

-- the members that a hit has from its document: none has the name of an added one
abbrev pub own_members : FormatView → Option (List CostKey) → Members → Members
own_members formats costs ms = members_by (λ name. not (is_among (added_names formats costs) name)) ms

-- An added member stands among the others in byte order, and a member of the document that has its name gives way.
abbrev pub with_costs : Option (List CostKey) → Members → Members
with_costs None ms = ms
with_costs (Some costs) ms = put (codes "_costs") (costs_data costs) ms

abbrev pub with_formatted : FormatView → List TermView → Members → Members → Members
with_formatted formats terms own ms =
    if formats_texts formats then put (codes "_formatted") (formatted_data terms formats own) ms else ms

abbrev pub with_positions : FormatView → List TermView → Members → Members → Members
with_positions formats terms own ms =
    if formats.positions then put (codes "_matchesPosition") (positions_data terms own) ms else ms

-- what is added to these members of a hit's document
abbrev pub with_added : FormatView → List TermView → Option (List CostKey) → Members → Members
with_added formats terms costs ms =
    let own = own_members formats costs ms in
    with_costs costs (with_formatted formats terms own (with_positions formats terms own ms))

-- a hit by its displayed top members, and of these by those that the search asks for; what is added whatever these say
abbrev pub hit_shown : List (List ℕ) → SearchView → List TermView → HitView → Data
hit_shown displayed call terms hit =
    object (with_added call.formats terms hit.costs
    (shown_members call.retrieve (shown_members displayed (members_in hit.document))))

-- a hit by the members whose names pass a test
abbrev pub hit_by : (List ℕ → Bool) → FormatView → List TermView → HitView → Data
hit_by test formats terms hit =
    object (with_added formats terms hit.costs (members_by test (members_in hit.document)))

-- a hit as the code shows it
abbrev pub shown_by : Display → HitView → Data
shown_by display = hit_by (shows display.names) display.marks.formats display.marks.terms
