use Rattle.std.proofs.Common.{◌≡◌, ◌+◌, ◌≤◌, ◌++◌, length}
use Rattle.std.specs.List.{enumerate_from}
use Rattle.doc_search.proofs.parts.numbered.Given as goal

-- the sets so far with their costs, and those to come
abbrev pub invariant-loop-set : goal.invariant-loop-set
invariant-loop-set l = record {
  few : l.cost + length l.set-iterator.rest.items ≤ 7;
  rows : (l.rows.items ++ enumerate_from l.cost l.set-iterator.rest.items) ≡ enumerate_from 0 l.initial.set-iterator.rest.items;
}
