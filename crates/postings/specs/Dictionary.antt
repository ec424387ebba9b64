-- The lists by word.
use Rattle.std.specs.Prelude.{◌≡◌, ◌==◌, ℕ, false, List, [], ◌∷◌, get_or, Option, None, Some}
use Rattle.std.specs.Option.{option_map}
use Rattle.std.specs.List.{All}
use Rattle.std.specs.declared.cmp.Ordering.{Ordering}
use Rattle.std.specs.Ordering.{is_eq, nat_cmp}
use Rattle.std.specs.Cmp.Lexicographic.{slice_cmp}
use Rattle.std.specs.Map.{lookup}
use Rattle.std.specs.BTreeMap.{is_at}
use Rattle.sorted_pages.specs.Rooms.{PagesView, HasRoom}
use Rattle.postings.specs.declared.change.WordChange.{WordChange}
use Rattle.postings.specs.declared.slots.Slot.{Slot}
use Rattle.postings.specs.declared.dictionary.Dictionary.{Dictionary}

-- words are in the order of their bytes
abbrev pub word_cmp : List ℕ → List ℕ → Ordering
word_cmp = slice_cmp nat_cmp

-- what stands at a word, if anything does
abbrev pub value_at : {X : Type 0} → List ℕ → List (List ℕ × X) → Option X
value_at word rows = lookup (is_at (word_cmp word)) rows

-- the entries of a list, and none where there is no list
abbrev pub entries_of : Option PagesView → List ℕ
entries_of None = []
entries_of (Some pages) = pages.entries

-- the numbers of the words, and what stands under each number
pub record Lists : Type 0 where
  pub numbers : List (List ℕ × ℕ)
  pub slots : List (Option Slot)

abbrev pub lists_of : Dictionary → Lists
lists_of dictionary = record { numbers = dictionary.numbers.entries; slots = dictionary.slots.items }

-- what stands under a number, if it is the number of a word
abbrev pub slot_in : List (Option Slot) → ℕ → Option Slot
slot_in slots number = get_or slots number None

-- the word of a number
abbrev pub word_in : List (Option Slot) → ℕ → Option (List ℕ)
word_in slots number = option_map (λ slot. slot.word) (slot_in slots number)

-- the list of a number, if there is one
abbrev pub pages_in : List (Option Slot) → Option ℕ → Option PagesView
pages_in slots None = None
pages_in slots (Some number) = option_map (λ slot. slot.list) (slot_in slots number)

-- the list of a word, if it has one
abbrev pub pages_at : List ℕ → Lists → Option PagesView
pages_at word lists = pages_in lists.slots (value_at word lists.numbers)

-- each word stands under its number, and under no other
pub record IsNumbered (lists : Lists) : Type 0 where
  pub word : (word : List ℕ) (number : ℕ) → value_at word lists.numbers ≡ Some number
      → word_in lists.slots number ≡ Some word
  pub number : (word : List ℕ) (number : ℕ) → word_in lists.slots number ≡ Some word
      → value_at word lists.numbers ≡ Some number

-- what stands under the numbers but one is as it was
abbrev pub HasSameSlots : ℕ → List (Option Slot) → List (Option Slot) → Type 0
HasSameSlots number old new = (other : ℕ) → (other == number) ≡ false → slot_in new other ≡ slot_in old other

-- lists by word, of which those that are empty only hold room
pub record PostingsView : Type 0 where
  pub lists : Lists

-- the list of a word, which is empty where the word has none
abbrev pub list_at : List ℕ → PostingsView → List ℕ
list_at word view = entries_of (pages_at word view.lists)

-- a list, or none where it is empty
abbrev pub some_list : List ℕ → Option (List ℕ)
some_list [] = None
some_list (x ∷ xs) = Some (x ∷ xs)

-- there is room for these entries
abbrev pub RoomAt : Option PagesView → List ℕ → Type 0
RoomAt None come = come ≡ []
RoomAt (Some pages) come = HasRoom pages come

-- there is room for what each word gains
pub record HasRooms (lists : Lists) (rows : List (List ℕ × WordChange)) : Type 0 where
  pub each : All (λ row. RoomAt (pages_at row.0 lists) row.1.come.items) rows

-- each word has the list that it had
abbrev pub HasSameLists : Lists → Lists → Type 0
HasSameLists old new = (word : List ℕ) → entries_of (pages_at word new) ≡ entries_of (pages_at word old)

-- the lists of the words but one are as they were
abbrev pub HasSameOthers : List ℕ → Lists → Lists → Type 0
HasSameOthers word old new =
    (other : List ℕ) → is_eq (word_cmp word other) ≡ false → pages_at other new ≡ pages_at other old

-- the word has no empty list, which holds room alone
abbrev pub IsTightAt : List ℕ → Lists → Type 0
IsTightAt word lists = entries_of (pages_at word lists) ≡ [] → pages_at word lists ≡ None

-- no word at all
abbrev pub none : List (List ℕ × WordChange)
none = []

-- no word but those of the rows has an empty list
abbrev pub IsTight : List (List ℕ × WordChange) → Lists → Type 0
IsTight rows lists = (word : List ℕ) → value_at word rows ≡ None → IsTightAt word lists
