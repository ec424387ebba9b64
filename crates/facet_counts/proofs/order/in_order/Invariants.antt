use Rattle.std.proofs.Common.{◌≡◌, take, ◌++◌}
use Rattle.facet_counts.specs.Order.{in_order as ordered}
use Rattle.facet_counts.proofs.order.in_order.Given as goal

abbrev pub invariant-loop-text : goal.invariant-loop-text
invariant-loop-text l = l.distinct.keys ≡ ordered (take l.text-index l.texts)

abbrev pub invariant-loop-word : goal.invariant-loop-word
invariant-loop-word l = l.words.items ++ l.word-iterator ≡ ordered l.fn.texts
