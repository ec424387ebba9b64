use Rattle.std.proofs.Common.{◌≡◌, ◌++◌, drop}
use Rattle.query_graph.specs.ItemReadings.{words_of}
use Rattle.query_graph.proofs.block.words_of.Given as goal

-- the words so far and those of the items to come are the words of all items
abbrev pub invariant-loop-item : goal.invariant-loop-item
invariant-loop-item l = l.words.items ++ words_of (drop l.item-index l.items) ≡ words_of l.items
