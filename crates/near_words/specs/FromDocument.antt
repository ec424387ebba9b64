-- What is left of a list from a document on.
use Rattle.std.specs.Prelude.{ℕ, ◌/◌, ◌^◌, nat_lt, nat_le, Bool, false, List, [], ◌∷◌, filter}

-- the entries of the documents from a number on
abbrev pub from_document : ℕ → List ℕ → List ℕ
from_document id entries = filter (λ entry. nat_le id (entry / 2 ^ 32)) entries

-- the first entry is of a document before this one
abbrev pub begins_before : ℕ → List ℕ → Bool
begins_before id [] = false
begins_before id (entry ∷ entries) = nat_lt (entry / 2 ^ 32) id
