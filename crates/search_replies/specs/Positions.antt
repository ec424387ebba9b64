-- Where the matched words of a hit stand.
use Rattle.std.specs.Prelude.{ℕ, ◌+◌, ◌-◌, List, [], ◌∷◌, ◌++◌, map, codes}
use Rattle.serde_json.specs.Data.{Data, null, boolean, number, unsigned, string, array, object, Items, no_items, item, Members, no_members, member}
use Rattle.serde_json.specs.View.{items_of}
use Rattle.search_base.specs.TermView.{TermView}
use Rattle.hit_format.specs.declared.spans.Span.{Span}
use Rattle.hit_format.specs.Matched.{matched}
use Rattle.search_replies.specs.declared.positions.Place.{Place}

-- the texts in a value, at any depth, as they stand there
abbrev mutual
  pub texts_in : Data → List (List ℕ)
  texts_in null = []
  texts_in (boolean b) = []
  texts_in (number n) = []
  texts_in (string text) = text ∷ []
  texts_in (array ds) = texts_in_items ds
  texts_in (object ms) = texts_in_members ms

  pub texts_in_items : Items → List (List ℕ)
  texts_in_items no_items = []
  texts_in_items (item d ds) = texts_in d ++ texts_in_items ds

  pub texts_in_members : Members → List (List ℕ)
  texts_in_members no_members = []
  texts_in_members (member name d ms) = texts_in d ++ texts_in_members ms

-- a span of the text that has this number
abbrev pub place_of : ℕ → Span → Place
place_of n span = record { length = span.end - span.start; start = span.start; text = n }

module _ (terms : List TermView) where
  -- the matched words of some texts, where the first text has this number
  abbrev pub places_from : ℕ → List (List ℕ) → List Place
  places_from n [] = []
  places_from n (text ∷ texts) = map (place_of n) (matched text terms) ++ places_from (n + 1) texts

  -- those of a member: its texts have numbers from 0, matched or not
  abbrev pub places_in : Data → List Place
  places_in d = places_from 0 (texts_in d)

abbrev pub place_data : Place → Data
place_data place =
    object (member (codes "length") (number (unsigned place.length))
    (member (codes "start") (number (unsigned place.start))
    (member (codes "text") (number (unsigned place.text)) no_members)))

abbrev pub places_data : List Place → Data
places_data places = array (items_of (map place_data places))

-- a member with its places before others, where it has one
abbrev pub with_places : List ℕ → List Place → Members → Members
with_places name [] ms = ms
with_places name (place ∷ places) ms = member name (places_data (place ∷ places)) ms

module _ (terms : List TermView) where
  abbrev pub position_members : Members → Members
  position_members no_members = no_members
  position_members (member name d ms) = with_places name (places_in terms d) (position_members ms)

  -- each member that holds a matched word, with its places
  abbrev pub positions_data : Members → Data
  positions_data ms = object (position_members ms)
