-- What a change of documents makes words lose and gain.
use Rattle.std.specs.Prelude.{◌≡◌, ℕ, ◌+◌, ◌<◌, Bool, true, false, not, ◌&&◌, List, [], length, Option, None, Some}
use Rattle.std.specs.List.{All, list_any}
use Rattle.std.specs.List.Sorted.{IsStrictlySortedBy}
use Rattle.std.specs.Map.{keys_of}
use Rattle.std.specs.Str.{bytes_eq}
use Rattle.sorted_pages.specs.Entries.{has, IsIncreasing}
use Rattle.postings.specs.declared.change.WordChange.{WordChange}
use Rattle.postings.specs.declared.change.Side.{Side}
use Rattle.postings.specs.declared.change.Side.TheVariants.{Goes, Comes}
use Rattle.postings.specs.Dictionary.{word_cmp, value_at}
use Rattle.postings.specs.Documents.{Document, stands, AllNarrow}

-- what each word loses and gains
pub record ChangeView : Type 0 where
  pub words : List (List ℕ × WordChange)

abbrev pub is_side : Side → Side → Bool
is_side Goes Goes = true
is_side Goes Comes = false
is_side Comes Goes = false
is_side Comes Comes = true

-- the entries on one side of a word's change
abbrev pub side_of : Side → WordChange → List ℕ
side_of Goes change = change.gone.items
side_of Comes change = change.come.items

abbrev pub side_at : Side → Option WordChange → List ℕ
side_at side None = []
side_at side (Some change) = side_of side change

-- whether the entry is named on this side of the word's change, where each word stands in one row
abbrev pub named : Side → List ℕ → ℕ → List (List ℕ × WordChange) → Bool
named side word entry rows = has (side_at side (value_at word rows)) entry

-- whether a row names the entry on this side of the word's change
abbrev pub names : Side → List ℕ → ℕ → (List ℕ × WordChange) → Bool
names side word entry row = bytes_eq row.0 word && has (side_of side row.1) entry

-- whether one of the rows does, where a word may stand in several
abbrev pub gathered : Side → List ℕ → ℕ → List (List ℕ × WordChange) → Bool
gathered side word entry rows = list_any (names side word entry) rows

-- what goes are the places of some documents, and what comes those of others
pub record IsChangeOf (change : ChangeView) (gone come : List Document) : Type 0 where
  pub goes : (word : List ℕ) (entry : ℕ) → gathered Goes word entry change.words ≡ stands word entry gone
  pub comes : (word : List ℕ) (entry : ℕ) → gathered Comes word entry change.words ≡ stands word entry come
  pub narrow : AllNarrow come

-- the same, without what goes and comes
pub record IsPreparedOf (change : ChangeView) (gone come : List Document) : Type 0 where
  pub goes : (word : List ℕ) (entry : ℕ) → named Goes word entry change.words
      ≡ (stands word entry gone && not (stands word entry come))
  pub comes : (word : List ℕ) (entry : ℕ) → named Comes word entry change.words
      ≡ (stands word entry come && not (stands word entry gone))
  pub narrow : AllNarrow come

-- the entries on both sides are in order
abbrev pub AreInOrder : WordChange → Type 0
AreInOrder change = IsIncreasing change.gone.items × IsIncreasing change.come.items

-- so they are, and one side at least has some
pub record IsSettled (row : List ℕ × WordChange) : Type 0 where
  pub increasing : AreInOrder row.1
  pub some : 0 < length row.1.gone.items + length row.1.come.items

-- so are all, and the words are in order too, each of which is there once
pub record AreSettled (rows : List (List ℕ × WordChange)) : Type 0 where
  pub words : IsStrictlySortedBy word_cmp (keys_of rows)
  pub each : All IsSettled rows

-- the entries of a word's change in order, without those that go and come
pub record IsRowOf (change row : WordChange) : Type 0 where
  pub increasing : AreInOrder row
  pub gone : (entry : ℕ) → has row.gone.items entry ≡ (has change.gone.items entry && not (has change.come.items entry))
  pub come : (entry : ℕ) → has row.come.items entry ≡ (has change.come.items entry && not (has change.gone.items entry))

-- the same for each word
pub record AreSettledOf (words rows : List (List ℕ × WordChange)) : Type 0 where
  pub goes : (word : List ℕ) (entry : ℕ) → named Goes word entry rows
      ≡ (named Goes word entry words && not (named Comes word entry words))
  pub comes : (word : List ℕ) (entry : ℕ) → named Comes word entry rows
      ≡ (named Comes word entry words && not (named Goes word entry words))
