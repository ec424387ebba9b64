use Rattle.std.proofs.Common.{◌≡◌, ◌++◌, drop}
use Rattle.query_graph.specs.Levels.{with_words}
use Rattle.query_graph.proofs.graph.with_words.Given as goal

-- the items so far and those of the rest that are kept
abbrev pub invariant-loop-item : goal.invariant-loop-item
invariant-loop-item l = l.kept.items ++ with_words l.left (drop l.item-index l.list) ≡ with_words l.words l.list
