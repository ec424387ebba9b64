-- The searches that bodies and query strings ask for. Their members are tried one after the other, and then read.
use Rattle.std.specs.Prelude.{ℕ, List, [], ◌∷◌, map, Bool, true, false, ◌||◌, codes, Option, Some, None, is_some, unwrap_or, Result, Ok, Err, if◌then◌else◌}
use Rattle.std.specs.Str.{bytes_eq}
use Rattle.serde_json.specs.Data.{unsigned, Data, boolean, number, string, array, object, Members, no_members, member, put}
use Rattle.serde_json.specs.Find.{as_null, as_bool, as_str}
use Rattle.serde_json.specs.View.{items_of}
use Rattle.search_base.specs.Trying.{◌>>=◌, refused_as}
use Rattle.search_base.specs.declared.query.Strategy.TheVariants as strategy
use Rattle.filter_tree.specs.Tree as tree
use Rattle.filter_tree.specs.Tree.{Tree}
use Rattle.filter_expr.specs.Answer.{parsed}
use Rattle.filter_expr.specs.declared.fault.FilterRefusal.{FilterRefusal}
use Rattle.filter_expr.specs.declared.fault.FilterRefusal.TheVariants as of_filter
use Rattle.search_call.specs.SearchView.{SearchView}
use Rattle.search_call.specs.declared.Window.{Window}
use Rattle.search_call.specs.declared.Window.TheVariants as window
use Rattle.request_refusals.specs.Members.{row_of, member_named}
use Rattle.request_refusals.specs.declared.refusal.Refusal.{Refusal}
use Rattle.request_refusals.specs.declared.refusal.Refusal.TheVariants.{Unknown, InvalidSearch, FilterSyntax, FilterTooDeep, FilterNotANumber}
use Rattle.request_refusals.specs.declared.member.SearchMember.{SearchMember}
use Rattle.request_refusals.specs.declared.member.SearchMember.TheVariants.{Query, Offset, Limit, Page, HitsPerPage, Filter, Facets, Sort, AttributesToRetrieve, MatchingStrategy, ShowCosts, Distinct}
use Rattle.request_refusals.specs.declared.member.Shape.{Shape}
use Rattle.request_refusals.specs.declared.member.Shape.TheVariants as shape
use Rattle.request_routes.specs.Query.{Pair, number_of, texts_of}
use Rattle.search_bodies.specs.Json.{json_in, members_of}
use Rattle.search_bodies.specs.Values.{count_in, names_in, sort_in, strategy_in, said}
use Rattle.search_bodies.specs.Formats.{formats_in}

-- ---- what a filter says

abbrev pub filter_refusal : FilterRefusal → Refusal
filter_refusal of_filter.NotText = InvalidSearch Filter
filter_refusal (of_filter.Syntax text place) = FilterSyntax text place
filter_refusal (of_filter.TooDeep text place) = FilterTooDeep text place
filter_refusal (of_filter.NotANumber value) = FilterNotANumber value

abbrev pub filter_in : Data → Result Tree Refusal
filter_in d = refused_as filter_refusal (parsed d)

-- ---- the members are tried one after the other, and the filter among them is kept

-- null is a value of each shape
abbrev pub kept_if : Bool → SearchMember → Data → Tree → Result Tree Refusal
kept_if fits m d filter = if fits || is_some (as_null d) then Ok filter else Err (InvalidSearch m)

-- a member of a shape
abbrev pub value_tried : Shape → SearchMember → Data → Tree → Result Tree Refusal
value_tried shape.Text m d filter = kept_if (is_some (as_str d)) m d filter
value_tried shape.Count m d filter = kept_if (is_some (count_in d)) m d filter
value_tried shape.Flag m d filter = kept_if (is_some (as_bool d)) m d filter
value_tried shape.Names m d filter = kept_if (is_some (names_in d)) m d filter
value_tried shape.Criteria m d filter = kept_if (is_some (sort_in d)) m d filter
value_tried shape.Strategy m d filter = kept_if (is_some (strategy_in d)) m d filter
value_tried shape.Filter m d filter = filter_in d

-- a name that no member has is unknown
abbrev pub named_tried : List ℕ → Option SearchMember → Data → Tree → Result Tree Refusal
named_tried name None d filter = Err (Unknown name)
named_tried name (Some m) d filter = value_tried (row_of m).shape m d filter

-- a name and its value
abbrev pub Given : Type 0
Given = List ℕ × Data

abbrev pub member_tried : Given → Tree → Result Tree Refusal
member_tried given filter = named_tried given.0 (member_named given.0) given.1 filter

-- the first that is refused refuses all
abbrev pub tried : List Given → Tree → Result Tree Refusal
tried [] filter = Ok filter
tried (given ∷ more) filter = member_tried given filter >>= tried more

-- ---- what they ask for

-- a page, where its number or its size is given, or else a slice
abbrev pub window_of : Option ℕ → Option ℕ → Window → Window
window_of None None slice = slice
window_of page per slice = window.Page (unwrap_or page 1) (unwrap_or per 20)

abbrev pub window_in : Data → Window
window_in d =
    window_of (said count_in Page d) (said count_in HitsPerPage d)
    (window.Slice (unwrap_or (said count_in Offset d) 0) (unwrap_or (said count_in Limit d) 20))

abbrev pub all_names : List (List ℕ)
all_names = codes "*" ∷ []

-- the search that the members of an object ask for, with its filter
abbrev pub search_in : Tree → Data → SearchView
search_in filter d = record {
  q = unwrap_or (said as_str Query d) [];
  window = window_in d;
  filter = filter;
  facets = said names_in Facets d;
  sort = unwrap_or (said sort_in Sort d) [];
  strategy = unwrap_or (said strategy_in MatchingStrategy d) strategy.Last;
  costs = unwrap_or (said as_bool ShowCosts d) false;
  retrieve = unwrap_or (said names_in AttributesToRetrieve d) all_names;
  formats = formats_in d;
  distinct = said as_str Distinct d;
}

-- the search that the members of an object ask for, in the order in which they are tried
abbrev pub search_given : List Given → Data → Result SearchView Refusal
search_given given d = tried given tree.all >>= λ filter. Ok (search_in filter d)

-- ---- bodies

-- the members of an object, in the byte order of their names
abbrev pub given_by : Members → List Given
given_by no_members = []
given_by (member name d ms) = (name, d) ∷ given_by ms

abbrev pub search_from : Data → Result SearchView Refusal
search_from d = members_of d >>= λ ms. search_given (given_by ms) d

-- an empty body counts as an object with no members
abbrev pub object_in : List ℕ → Result Data Refusal
object_in [] = Ok (object no_members)
object_in (b ∷ bytes) = json_in (b ∷ bytes)

-- the search that a body asks for
abbrev pub search_of : List ℕ → Result SearchView Refusal
search_of body = object_in body >>= search_from

-- ---- query strings

-- a number where the text writes one, and else the text
abbrev pub number_or_text : List ℕ → Option ℕ → Data
number_or_text text None = string text
number_or_text text (Some n) = number (unsigned n)

abbrev pub list_written : List ℕ → Data
list_written text = array (items_of (map string (texts_of text)))

abbrev pub flag_or_text : List ℕ → Data
flag_or_text text =
    if bytes_eq text (codes "true") then boolean true
    else if bytes_eq text (codes "false") then boolean false
    else string text

-- what a text of a query string stands for
abbrev pub written_as : Shape → List ℕ → Data
written_as shape.Text text = string text
written_as shape.Count text = number_or_text text (number_of text)
written_as shape.Flag text = flag_or_text text
written_as shape.Names text = list_written text
written_as shape.Criteria text = list_written text
written_as shape.Strategy text = string text
written_as shape.Filter text = string text

abbrev pub written : Option SearchMember → List ℕ → Data
written None text = string text
written (Some m) text = written_as (row_of m).shape text

abbrev pub given_as : Pair → Given
given_as pair = (pair.0, written (member_named pair.0) pair.1)

-- the members of an object, and then these
abbrev pub with_given : List Given → Members → Members
with_given [] ms = ms
with_given (given ∷ more) ms = with_given more (put given.0 given.1 ms)

-- the search that the pairs of a query string ask for, which stands for an object
abbrev pub search_by : List Pair → Result SearchView Refusal
search_by pairs = let given = map given_as pairs in search_given given (object (with_given given no_members))
