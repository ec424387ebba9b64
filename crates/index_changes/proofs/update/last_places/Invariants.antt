use Rattle.std.proofs.Common.{take}
use Rattle.index_changes.specs.Updating.{ArePlaces}
use Rattle.index_changes.proofs.update.last_places.Given as goal

-- the places among the documents so far
abbrev pub invariant-loop-place : goal.invariant-loop-place
invariant-loop-place l = ArePlaces l.places (take l.place l.fn.documents)
