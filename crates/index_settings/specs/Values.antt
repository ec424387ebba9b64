-- What is read from the JSON values of a patch: tests of their shape, and what those of the shape hold.
use Rattle.std.specs.Prelude.{ℕ, List, [], ◌∷◌, Bool, true, false, ◌&&◌, nat_le, is_some, Option, Some, None, option_and_then, unwrap_or}
use Rattle.serde_json.specs.Data.{Data, null, boolean, number, string, array, object, Items, no_items, item, Members, no_members, member}
use Rattle.serde_json.specs.Events.{items_len}
use Rattle.serde_json.specs.Find.{as_null, as_number, as_str, as_u64}
use Rattle.index_settings.specs.View.{SynonymView}

abbrev pub is_null : Data → Bool
is_null d = is_some (as_null d)

-- ---- a number

abbrev pub is_within : ℕ → Option ℕ → Bool
is_within most None = false
is_within most (Some n) = nat_le n most

-- a whole number from 0 to the greatest allowed
abbrev pub is_number_up_to : ℕ → Data → Bool
is_number_up_to most d = is_within most (option_and_then as_u64 (as_number d))

abbrev pub number_in : Data → ℕ
number_in d = unwrap_or (option_and_then as_u64 (as_number d)) 0

-- ---- a list of texts

abbrev pub items_are_texts : Items → Bool
items_are_texts no_items = true
items_are_texts (item d ds) = is_some (as_str d) && items_are_texts ds

-- an array of texts
abbrev pub are_texts : Data → Bool
are_texts null = false
are_texts (boolean b) = false
are_texts (number n) = false
are_texts (string s) = false
are_texts (array ds) = items_are_texts ds
are_texts (object ms) = false

abbrev pub entries_in : Data → ℕ
entries_in null = 0
entries_in (boolean b) = 0
entries_in (number n) = 0
entries_in (string s) = 0
entries_in (array ds) = items_len ds
entries_in (object ms) = 0

-- an array of texts, and not too many of them
abbrev pub are_texts_up_to : ℕ → Data → Bool
are_texts_up_to most d = nat_le (entries_in d) most && are_texts d

abbrev pub with_text : Option (List ℕ) → List (List ℕ) → List (List ℕ)
with_text None texts = texts
with_text (Some text) texts = text ∷ texts

abbrev pub item_texts : Items → List (List ℕ)
item_texts no_items = []
item_texts (item d ds) = with_text (as_str d) (item_texts ds)

-- the texts of an array, in order
abbrev pub texts_in : Data → List (List ℕ)
texts_in null = []
texts_in (boolean b) = []
texts_in (number n) = []
texts_in (string s) = []
texts_in (array ds) = item_texts ds
texts_in (object ms) = []

-- ---- synonyms

abbrev pub members_are_texts : Members → Bool
members_are_texts no_members = true
members_are_texts (member key d ms) = are_texts d && members_are_texts ms

-- an object of arrays of texts
abbrev pub are_synonyms : Data → Bool
are_synonyms null = false
are_synonyms (boolean b) = false
are_synonyms (number n) = false
are_synonyms (string s) = false
are_synonyms (array ds) = false
are_synonyms (object ms) = members_are_texts ms

abbrev pub member_synonyms : Members → List SynonymView
member_synonyms no_members = []
member_synonyms (member key d ms) = record { key = key; texts = texts_in d } ∷ member_synonyms ms

-- each member's name and texts, in the order of the members
abbrev pub synonyms_in : Data → List SynonymView
synonyms_in null = []
synonyms_in (boolean b) = []
synonyms_in (number n) = []
synonyms_in (string s) = []
synonyms_in (array ds) = []
synonyms_in (object ms) = member_synonyms ms
