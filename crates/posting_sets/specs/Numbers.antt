-- Documents by the least number of the places where a term occurs.
use Rattle.std.specs.Prelude.{◌≡◌, ◌≢◌, ℕ, nat_eq, ◌<◌, ◌==◌, List, [], ◌∷◌, slice_get, if◌then◌else◌}
use Rattle.std.specs.Prelude.{Option, None, Some, option_and_then, ⊤}
use Rattle.std.specs.Option.{option_eq}
use Rattle.std.specs.List.{filter}
use Rattle.search_base.specs.declared.document.Place.{Place}
use Rattle.search_base.specs.Least.{least_by}
use Rattle.search_base.specs.Occurrence.{occurs_at}
use Rattle.search_base.specs.TermView.{TermView}
use Rattle.doc_sets.specs.SetView.{SetView}
use Rattle.postings.specs.Documents.{Document, places_of}
use Rattle.postings.specs.Dictionary.{PostingsView}
use Rattle.postings.specs.Fresh.{StandsFor}

-- the rank of a path, where it has one
abbrev pub rank_at : List (Option ℕ) → ℕ → Option ℕ
rank_at ranks path = option_and_then (λ rank. rank) (slice_get ranks path)

-- the least number of the places where the term occurs
abbrev pub least_number : (Place → Option ℕ) → List Place → TermView → Option ℕ
least_number number places term =
    least_by (λ place. if occurs_at places term place then number place else None) places

-- the documents of a universe where it is n
abbrev pub numbered : List Document → TermView → (Place → Option ℕ) → List ℕ → ℕ → List ℕ
numbered documents term number universe n =
    filter (λ id. option_eq nat_eq (least_number number (places_of id documents) term) (Some n)) universe

-- the set at a number, which is empty where there is none
abbrev pub set_at : ℕ → List (ℕ × SetView) → List ℕ
set_at n [] = []
set_at n (row ∷ rows) = if row.0 == n then row.1.ids else set_at n rows

-- the numbers are above one, and increase
abbrev pub NumbersAbove : ℕ → List (ℕ × SetView) → Type 0
NumbersAbove n [] = ⊤
NumbersAbove n (row ∷ rows) = (n < row.0) × NumbersAbove n rows

abbrev pub NumbersIncrease : List (ℕ × SetView) → Type 0
NumbersIncrease [] = ⊤
NumbersIncrease (row ∷ rows) = NumbersAbove row.0 rows × NumbersIncrease rows

-- no set is empty
abbrev pub NoneEmpty : List (ℕ × SetView) → Type 0
NoneEmpty [] = ⊤
NoneEmpty (row ∷ rows) = (row.1.ids ≢ []) × NoneEmpty rows

-- the documents of a universe by the least number of the places where the term occurs, whatever documents the
-- postings stand for
pub record AreNumbered (view : PostingsView) (term : TermView) (number : Place → Option ℕ) (universe : List ℕ)
    (rows : List (ℕ × SetView)) : Type 0 where
  pub up : NumbersIncrease rows
  pub some : NoneEmpty rows
  pub each : (documents : List Document) → StandsFor view documents
      → (n : ℕ) → set_at n rows ≡ numbered documents term number universe n
