use Rattle.std.proofs.Common.{List, take, ◌++◌, length}
use Rattle.search_base.specs.declared.document.PathId.{PathId}
use Rattle.search_base.specs.RowsView.{RowsView}
use Rattle.search_base.specs.SortKeys.{leaves_under}
use Rattle.facet_counts.specs.Counting.{IsTallyOf, tally_view}
use Rattle.facet_counts.specs.Counts.{leaves_at, count_of}
use Rattle.facet_counts.proofs.Tallying.{IsAmid}
use Rattle.facet_counts.proofs.counter.Tally.add.Given as goal

abbrev pub invariant-loop-leaf : goal.invariant-loop-leaf
invariant-loop-leaf l = (at : PathId) (documents : List RowsView) → IsTallyOf (tally_view l.fn.self) at documents
    → IsAmid l.self at (leaves_at at.0 documents ++ leaves_under at.0 (take l.leaf-index l.leaves)) (count_of at.0 documents) (length documents)
    (leaves_under at.0 (take l.leaf-index l.leaves))
