use Rattle.std.proofs.Common.{◌≡◌, ◌++◌, map, None}
use Rattle.std.specs.Prelude.{flat_map}
use Rattle.document_changes.specs.Changes.{kind_view}
use Rattle.index_changes.specs.Batches.{names_in}
use Rattle.index_changes.proofs.batch.removed_ids.Given as goal

-- the ids so far, and then those of the changes that are left
abbrev pub invariant-loop-change : goal.invariant-loop-change
invariant-loop-change l =
    l.ids.items ++ flat_map (names_in None) (map kind_view l.change-iterator.rest.items) ≡ flat_map (names_in None) (map kind_view l.fn.changes.items)
