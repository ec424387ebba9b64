use Rattle.std.proofs.Common.{◌≤◌, [], length, map, drop}
use Rattle.row_index.specs.Changes.{IsChangeOf}
use Rattle.doc_index.specs.Documents.{indexed}
use Rattle.doc_index.proofs.change.take_out.Given as goal

abbrev pub invariant-loop-i : goal.invariant-loop-i
invariant-loop-i l = record {
  within : l.i ≤ length l.stored;
  change : IsChangeOf l.change (map (λ r. indexed l.paths l.uses r.id.0 r.text) (drop l.i l.stored)) [];
}

abbrev pub decreases-loop-i : goal.decreases-loop-i
decreases-loop-i l = l.i
