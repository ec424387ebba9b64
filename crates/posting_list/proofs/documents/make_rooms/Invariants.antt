use Rattle.std.proofs.Common.{ℕ, List}
use Rattle.posting_list.specs.Sets.{AreSetsOf}
use Rattle.posting_list.proofs.documents.make_rooms.Given as goal

abbrev pub invariant-loop-kept : goal.invariant-loop-kept
invariant-loop-kept l = (entries : List ℕ) → AreSetsOf l.initial.kept-items entries → AreSetsOf l.kept-items entries
