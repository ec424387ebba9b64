-- Where the keys of the values begin that come after an entry.
use Rattle.std.specs.Prelude.{◌≡◌, ℕ, pos, negsuc, ◌-◌, ◌^◌, Bool, true, false, not, ◌||◌, List, reverse, Option, Some, None, if◌then◌else◌}
use Rattle.std.specs.List.{list_any}
use Rattle.std.specs.declared.cmp.Ordering.{Ordering}
use Rattle.std.specs.declared.ops.Bound.{Bound}
use Rattle.std.specs.declared.ops.Bound.TheVariants.{Included, Excluded}
use Rattle.std.specs.Ordering.{is_lt, is_le}
use Rattle.search_base.specs.declared.cost_key.CostKey.{CostKey}
use Rattle.search_base.specs.declared.cost_key.CostKey.TheVariants as cost
use Rattle.search_base.specs.declared.cost_key.SortKey.{SortKey}
use Rattle.search_base.specs.declared.cost_key.SortKey.TheVariants as sort
use Rattle.search_base.specs.declared.value.FacetValue.{FacetValue}
use Rattle.search_base.specs.declared.value.FacetValue.TheVariants as facet
use Rattle.postings.specs.Dictionary.{PostingsView, word_cmp, list_at, some_list}
use Rattle.facet_keys.specs.Values.{is_end_of}
use Rattle.facet_index.specs.Places.{has_document}
use Rattle.facet_index.specs.declared.sorts.Start.{Start}

-- a value as a sort key and as an entry, and back
abbrev pub value_key : FacetValue → SortKey
value_key (facet.Number n) = sort.Number n
value_key (facet.Text text) = sort.Text text

abbrev pub entry_of : Bool → FacetValue → CostKey
entry_of true v = cost.Up (value_key v)
entry_of false v = cost.Down (value_key v)

abbrev pub key_value : SortKey → Option FacetValue
key_value (sort.Number n) = Some (facet.Number n)
key_value (sort.Text text) = Some (facet.Text text)
key_value sort.Missing = None

abbrev pub entry_value : Bool → CostKey → Option FacetValue
entry_value up (cost.Number n) = None
entry_value true (cost.Up key) = key_value key
entry_value true (cost.Down key) = None
entry_value false (cost.Up key) = None
entry_value false (cost.Down key) = key_value key

-- at the first of all values, or behind a value
abbrev pub first_start : Bool → Start
first_start true = record { value = facet.Number (negsuc (2 ^ 127 - 1)); behind = false }
first_start false = record { value = facet.Number (pos (2 ^ 127 - 1)); behind = false }

abbrev pub behind_key : SortKey → Option Start
behind_key (sort.Number n) = Some (record { value = facet.Number n; behind = true })
behind_key (sort.Text text) = Some (record { value = facet.Text text; behind = true })
behind_key sort.Missing = None

-- where the values begin whose entries come after another, if there are such
abbrev pub start_of : Bool → Option CostKey → Option Start
start_of up None = Some (first_start up)
start_of up (Some (cost.Number n)) = Some (first_start up)
start_of true (Some (cost.Up key)) = behind_key key
start_of true (Some (cost.Down key)) = None
start_of false (Some (cost.Up key)) = Some (first_start false)
start_of false (Some (cost.Down key)) = behind_key key

-- ---- words

abbrev pub word_order : Bool → List ℕ → List ℕ → Ordering
word_order true v w = word_cmp v w
word_order false v w = word_cmp w v

-- whether a word stands at the start or behind it, in the direction
abbrev pub is_from : Bool → Bool → List ℕ → List ℕ → Bool
is_from up behind start word = if behind then is_lt (word_order up start word) else is_le (word_order up start word)

-- a bound at a word, or behind it
abbrev pub bound_by : Bool → List ℕ → Bound (List ℕ)
bound_by true word = Excluded word
bound_by false word = Included word

-- rows of words in the direction
abbrev pub in_direction : Bool → List (List ℕ × List ℕ) → List (List ℕ × List ℕ)
in_direction true rows = rows
in_direction false rows = reverse rows

-- whether a document of the universe has the word of a row, or that is no key of a value that comes first under the path
abbrev pub stops_at : Bool → ℕ → List ℕ → List ℕ × List ℕ → Bool
stops_at up path universe row = list_any (λ d. has_document d row.1) universe || not (is_end_of up path row.0)

-- whether a document of the universe has the word
abbrev pub is_had : List ℕ → PostingsView → List ℕ → Bool
is_had universe view word = list_any (λ d. has_document d (list_at word view)) universe

-- The first of the words from a start on that a document of the universe has, or that is no key of a value that comes
-- first under the path.
pub record IsNext (up behind : Bool) (path : ℕ) (start universe : List ℕ) (view : PostingsView) (word : List ℕ) : Type 0 where
  pub list : List ℕ
  pub here : some_list (list_at word view) ≡ Some list
  pub from : is_from up behind start word ≡ true
  pub stops : (is_had universe view word || not (is_end_of up path word)) ≡ true
  pub next : (other : List ℕ) → is_from up behind start other ≡ true → is_had universe view other ≡ true
      → is_le (word_order up word other) ≡ true

-- no document of the universe has a word from a start on
abbrev pub HasNoneFrom : Bool → Bool → List ℕ → List ℕ → PostingsView → Type 0
HasNoneFrom up behind start universe view = (word : List ℕ) → is_from up behind start word ≡ true → is_had universe view word ≡ false
