use Rattle.std.proofs.Common.{◌≡◌, take}
use Rattle.doc_store.specs.Store.{externals}
use Rattle.index_changes.proofs.external_ids.ids_of.Given as goal

-- the external ids of the rows so far
abbrev pub invariant-loop-row : goal.invariant-loop-row
invariant-loop-row l = l.ids.items ≡ externals (take l.row-index l.fn.rows)
