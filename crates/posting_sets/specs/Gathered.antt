-- Documents by number, while they are gathered.
use Rattle.std.specs.Prelude.{◌≡◌, ℕ, nat_eq, ◌<◌, Bool, not, ◌==◌, ◌&&◌, ◌||◌, Option, None, Some, if◌then◌else◌, ⊤}
use Rattle.std.specs.Prelude.{List, [], ◌∷◌, ◌++◌, take, get_or}
use Rattle.std.specs.Option.{option_eq}
use Rattle.std.specs.List.{list_any}
use Rattle.search_base.specs.declared.document.Place.{Place}
use Rattle.search_base.specs.Bucket.{bucket_of}
use Rattle.search_base.specs.Occurrence.{occurs_at}
use Rattle.search_base.specs.TermView.{TermView}
use Rattle.doc_sets.specs.SetView.{SetView}
use Rattle.doc_sets.specs.Sets.{has, IsIncreasing}
use Rattle.postings.specs.Documents.{Document, places_of}
use Rattle.postings.specs.Dictionary.{PostingsView}
use Rattle.postings.specs.Fresh.{StandsFor}
use Rattle.posting_sets.specs.declared.number.Number.{Number}
use Rattle.posting_sets.specs.declared.number.Number.TheVariants.{Rank, Bucket, Beginning, First}
use Rattle.posting_sets.specs.Entries.{document_of, path_of, position_of}
use Rattle.posting_sets.specs.Starts.{AreStarts}
use Rattle.posting_sets.specs.Numbers.{rank_at, set_at, NumbersIncrease, NoneEmpty}

-- the number of a place, by its path and position
abbrev pub number_at : Number → ℕ → ℕ → Option ℕ
number_at (Rank ranks) path position = rank_at ranks.now path
number_at Bucket path position = Some (bucket_of position)
number_at Beginning path position = if position == 0 then Some path else None
number_at First path position = if position == 0 then Some 0 else None

-- the number of a place
abbrev pub place_number : Number → Place → Option ℕ
place_number number place = number_at number place.path.0 place.position

-- the entry is of this document, and has this number
abbrev pub is_numbered : Number → ℕ → ℕ → ℕ → Bool
is_numbered number n id entry =
    (document_of entry == id) && option_eq nat_eq (number_at number (path_of entry) (position_of entry)) (Some n)

-- the same of the rank of its path
abbrev pub is_ranked : List (Option ℕ) → ℕ → ℕ → ℕ → Bool
is_ranked ranks n id entry = (document_of entry == id) && option_eq nat_eq (rank_at ranks (path_of entry)) (Some n)

-- the same of its path, where it is at the beginning of that
abbrev pub is_beginning : ℕ → ℕ → ℕ → Bool
is_beginning n id entry = (document_of entry == id)
    && option_eq nat_eq (if position_of entry == 0 then Some (path_of entry) else None) (Some n)

-- the documents that have a number, by the numbers
abbrev pub ids_at : ℕ → List (List ℕ) → List ℕ
ids_at n sets = get_or sets n []

-- the documents of a universe where the words of these lists stand in a row come to those of the numbers there
abbrev pub AddsStarts : List (List ℕ) → List (List ℕ) → Number → List ℕ → List (List ℕ) → Type 0
AddsStarts old new number universe lists = (starts : List ℕ) × AreStarts universe lists starts
    × ((n id : ℕ) → has (ids_at n new) id ≡ (list_any (is_numbered number n id) starts || has (ids_at n old) id))

-- the set of a number before this one has the document
abbrev pub is_below : ℕ → ℕ → List (List ℕ) → Bool
is_below n id sets = list_any (λ set. has set id) (take n sets)

-- each document is at the least number whose set has it
pub record AreLeast (sets : List (List ℕ)) (rows : List (ℕ × SetView)) : Type 0 where
  pub up : NumbersIncrease rows
  pub some : NoneEmpty rows
  pub sorted : (n : ℕ) → IsIncreasing (set_at n rows)
  pub each : (n id : ℕ) → has (set_at n rows) id ≡ (has (ids_at n sets) id && not (is_below n id sets))

-- the term occurs in the document at this place, which has number n
abbrev pub has_at : List Document → TermView → (Place → Option ℕ) → ℕ → ℕ → Place → Bool
has_at documents term number n id place =
    occurs_at (places_of id documents) term place && option_eq nat_eq (number place) (Some n)

-- the document is one of a universe, and the term occurs in it at a place of number n
abbrev pub has_number : List Document → TermView → (Place → Option ℕ) → List ℕ → ℕ → ℕ → Bool
has_number documents term number universe n id =
    has universe id && list_any (has_at documents term number n id) (places_of id documents)

-- these are the documents of each number, whatever documents the postings stand for
abbrev pub AreOfNumbers : PostingsView → TermView → (Place → Option ℕ) → List ℕ → List (List ℕ) → Type 0
AreOfNumbers view term number universe sets = (documents : List Document) → StandsFor view documents
    → (n id : ℕ) → has (ids_at n sets) id ≡ has_number documents term number universe n id

-- the numbers of some sets are below one
abbrev pub NumbersBelow : ℕ → List (ℕ × SetView) → Type 0
NumbersBelow n [] = ⊤
NumbersBelow n (row ∷ rows) = (row.0 < n) × NumbersBelow n rows

-- one more row of these documents, if there is one
abbrev pub AddsRow : List (ℕ × SetView) → List (ℕ × SetView) → ℕ → List ℕ → Type 0
AddsRow old new n [] = new ≡ old
AddsRow old new n (id ∷ ids) = (set : SetView) × (new ≡ old ++ (n, set) ∷ []) × (set.ids ≡ id ∷ ids)
