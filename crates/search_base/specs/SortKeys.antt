-- What a document is sorted by under a path and in a direction.
use Rattle.std.specs.Prelude.{ℕ, ℤ, int_lt, ◌==◌, Bool, List, [], ◌∷◌, filter, Option, Some, None, if◌then◌else◌}
use Rattle.std.specs.Cmp.Lexicographic.{slice_cmp}
use Rattle.std.specs.Ordering.{nat_cmp, is_lt}
use Rattle.search_base.specs.declared.cost_key.SortKey.{SortKey}
use Rattle.search_base.specs.declared.cost_key.SortKey.TheVariants as sort
use Rattle.search_base.specs.declared.document.Leaf.{Leaf}
use Rattle.search_base.specs.declared.document.PathId.{PathId}
use Rattle.search_base.specs.declared.value.FacetValue.{FacetValue}
use Rattle.search_base.specs.declared.value.FacetValue.TheVariants as facet

-- the leaves under a path
abbrev pub leaves_under : ℕ → List Leaf → List Leaf
leaves_under path leaves = filter (λ leaf. leaf.path.0 == path) leaves

-- the number, in front of others, if the value is one
abbrev pub with_number : FacetValue → List ℤ → List ℤ
with_number (facet.Number n) numbers = n ∷ numbers
with_number (facet.Text text) numbers = numbers

-- the normal form, in front of others, if the value is a text or a boolean
abbrev pub with_text : FacetValue → List (List ℕ) → List (List ℕ)
with_text (facet.Number n) texts = texts
with_text (facet.Text text) texts = text ∷ texts

-- the numbers among the leaves
abbrev pub numbers : List Leaf → List ℤ
numbers [] = []
numbers (leaf ∷ leaves) = with_number leaf.value (numbers leaves)

-- the normal forms of the texts and booleans among the leaves
abbrev pub texts : List Leaf → List (List ℕ)
texts [] = []
texts (leaf ∷ leaves) = with_text leaf.value (texts leaves)

-- of x and what may be there, the one that the test puts first
abbrev pub sooner : {X : Type 0} → (X → X → Bool) → X → Option X → X
sooner before x None = x
sooner before x (Some y) = if before y x then y else x

-- the member of a list that the test puts first
abbrev pub first_by : {X : Type 0} → (X → X → Bool) → List X → Option X
first_by before [] = None
first_by before (x ∷ xs) = Some (sooner before x (first_by before xs))

-- by value
abbrev pub is_less : ℤ → ℤ → Bool
is_less m n = int_lt m n

abbrev pub is_greater : ℤ → ℤ → Bool
is_greater m n = int_lt n m

-- by bytes
abbrev pub is_text_less : List ℕ → List ℕ → Bool
is_text_less v w = is_lt (slice_cmp nat_cmp v w)

abbrev pub is_text_greater : List ℕ → List ℕ → Bool
is_text_greater v w = is_lt (slice_cmp nat_cmp w v)

-- a text, or nothing
abbrev pub text_key : Option (List ℕ) → SortKey
text_key None = sort.Missing
text_key (Some text) = sort.Text text

-- a number, else a text, else nothing
abbrev pub key_of : Option ℤ → Option (List ℕ) → SortKey
key_of (Some n) text = sort.Number n
key_of None text = text_key text

-- ascending: the least number, else the least text, else nothing
abbrev pub least_key : List Leaf → SortKey
least_key leaves = key_of (first_by is_less (numbers leaves)) (first_by is_text_less (texts leaves))

-- descending: the greatest number, else the greatest text, else nothing
abbrev pub greatest_key : List Leaf → SortKey
greatest_key leaves = key_of (first_by is_greater (numbers leaves)) (first_by is_text_greater (texts leaves))

-- the key of the leaves under a path; nothing where there is no path
abbrev pub key_under : (List Leaf → SortKey) → List Leaf → Option PathId → SortKey
key_under key leaves None = sort.Missing
key_under key leaves (Some path) = key (leaves_under path.0 leaves)
