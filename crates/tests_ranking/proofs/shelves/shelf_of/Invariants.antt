use Rattle.std.proofs.Common.{◌≤◌, [], drop, length}
use Rattle.row_index.specs.Changes.{IsChangeOf}
use Rattle.tests_ranking.specs.Shelves.{shelved_from}
use Rattle.tests_ranking.proofs.shelves.shelf_of.Given as goal

abbrev pub invariant-loop-at : goal.invariant-loop-at
invariant-loop-at l = (l.at ≤ length l.rows.items) × IsChangeOf l.change [] (shelved_from l.at (drop l.at l.rows.items))

abbrev pub decreases-loop-at : goal.decreases-loop-at
decreases-loop-at l = l.at
