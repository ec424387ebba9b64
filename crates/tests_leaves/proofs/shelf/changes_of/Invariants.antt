use Rattle.std.proofs.Common.{◌≡◌, List, [], drop}
use Rattle.facet_index.specs.LeavesView.{LeavesView}
use Rattle.facet_index.specs.Batches.{IsChangeFor}
use Rattle.leaf_table.specs.Changes.{IsLeafChangeOf}
use Rattle.tests_leaves.specs.Shelves.{put, numbered}
use Rattle.tests_leaves.proofs.shelf.changes_of.Given as goal

abbrev pub invariant-loop-each : goal.invariant-loop-each
invariant-loop-each l = (come : List LeavesView) × IsChangeFor l.facet_change [] come × IsLeafChangeOf l.leaf_change [] come × (l.next ≡ l.each-index)
    × (put l.each-index come (drop l.each-index l.leaves) ≡ numbered l.leaves)
