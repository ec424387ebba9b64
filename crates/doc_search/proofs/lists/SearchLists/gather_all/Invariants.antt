use Rattle.std.proofs.Common.{◌≡◌}
use Rattle.doc_search.proofs.lists.SearchLists.gather_all.Given as goal

abbrev pub invariant-loop-level : goal.invariant-loop-level
invariant-loop-level l = l.self ≡ l.initial.self

abbrev pub invariant-loop-placed : goal.invariant-loop-placed
invariant-loop-placed l = l.self ≡ l.initial.self
