use Rattle.index_changes.specs.Keyed.{AreReadBack}
use Rattle.index_changes.proofs.Updating.{Updates}
use Rattle.index_changes.proofs.update.update_rows.Given as goal

-- the documents of the update so far, and they are read back from their texts
abbrev pub invariant-loop-row : goal.invariant-loop-row
invariant-loop-row l =
    Updates l.initial.row-iterator.rest.items l.row-iterator.rest.items l.store.content l.rows.items l.waiting
    × (AreReadBack l.row-iterator.rest.items → AreReadBack l.initial.row-iterator.rest.items)
