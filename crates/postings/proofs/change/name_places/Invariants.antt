use Rattle.std.proofs.Common.{◌≡◌, ℕ, ◌&&◌, ◌||◌, List, take}
use Rattle.postings.specs.declared.change.Side.{Side}
use Rattle.postings.specs.Documents.{AreNarrow, stands_in}
use Rattle.postings.specs.Changes.{is_side, gathered}
use Rattle.postings.proofs.change.name_places.Given as goal

abbrev pub invariant-loop-place : goal.invariant-loop-place
invariant-loop-place l = record {
  named : (s : Side) (word : List ℕ) (entry : ℕ) → gathered s word entry l.words.rows.items
      ≡ ((is_side l.side s && stands_in word entry l.id.0 (take l.place-index l.places)) || gathered s word entry l.initial.words.rows.items);
  narrow : AreNarrow (take l.place-index l.places);
}
