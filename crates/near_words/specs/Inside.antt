-- The entries of the documents of a universe.
use Rattle.std.specs.Prelude.{ℕ, ◌/◌, ◌^◌, List, filter}
use Rattle.doc_sets.specs.Sets.{has as has_id}

-- those of a list whose documents are in the universe
abbrev pub inside : List ℕ → List ℕ → List ℕ
inside universe entries = filter (λ entry. has_id universe (entry / 2 ^ 32)) entries
