use Rattle.std.proofs.Common.{◌≡◌, ◌≤◌, length, drop}
use Rattle.std.specs.Option.{option_copied}
use Rattle.facet_index.specs.Ends.{first_value}
use Rattle.facet_index.proofs.ends.first_value.Given as goal

abbrev pub invariant-loop-left : goal.invariant-loop-left
invariant-loop-left l = record {
  inside : l.left ≤ length l.leaves;
  known : option_copied l.first ≡ first_value l.up l.path.0 (drop l.left l.leaves);
}

abbrev pub decreases-loop-left : goal.decreases-loop-left
decreases-loop-left l = l.left
