use Rattle.std.proofs.Common.{◌≡◌, ◌++◌, ◌-◌, map, take, length}
use Rattle.facet_counts.specs.Counting.{entry_row}
use Rattle.facet_counts.proofs.counter.first_rows.Given as goal

abbrev pub invariant-loop-value : goal.invariant-loop-value
invariant-loop-value l = l.rows.items ++ map entry_row (take (l.most - length l.rows.items) l.value-iterator) ≡ map entry_row (take l.most l.fn.values.entries)
