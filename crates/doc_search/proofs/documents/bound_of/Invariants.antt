use Rattle.std.proofs.Common.{take, drop}
use Rattle.doc_search.specs.Ranked.{RankedBelow}
use Rattle.doc_search.proofs.documents.bound_of.Given as goal

abbrev pub invariant-loop-path_use : goal.invariant-loop-path_use
invariant-loop-path_use l = RankedBelow l.bound (take l.path_use-index l.uses) × RankedBelow 65535 (drop l.path_use-index l.uses)
