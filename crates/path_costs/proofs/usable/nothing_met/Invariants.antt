use Rattle.std.proofs.Common.{◌≡◌, ◌≢◌, ℕ, length, slice_get, Some}
use Rattle.doc_sets.specs.SetView.{SetView}
use Rattle.path_costs.proofs.usable.nothing_met.Given as goal

abbrev pub invariant-loop-edge : goal.invariant-loop-edge
invariant-loop-edge l = record {
  len : length l.met.items ≡ l._edge;
  none : (i : ℕ) (set : SetView) → slice_get l.met.items i ≢ Some (Some set);
}
