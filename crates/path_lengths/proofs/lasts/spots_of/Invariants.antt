use Rattle.std.proofs.Common.{◌≡◌, ℕ, take}
use Rattle.sorted_pages.specs.Entries.{has}
use Rattle.postings.specs.Documents.{AreNarrow}
use Rattle.path_lengths.specs.Lasts.{is_taken}
use Rattle.path_lengths.proofs.lasts.spots_of.Given as goal

abbrev pub invariant-loop-place : goal.invariant-loop-place
invariant-loop-place l = record {
  same : (spot : ℕ) → has l.spots.items spot ≡ is_taken (take l.place-index l.places) spot;
  narrow : AreNarrow (take l.place-index l.places);
}
