use Rattle.std.proofs.Common.{◌≡◌, ◌++◌}
use Rattle.doc_store.specs.Store.{externals}
use Rattle.index_changes.specs.Keyed.{AreReadBack}
use Rattle.index_changes.proofs.Noting.{documents_in}
use Rattle.index_changes.proofs.external_ids.rows_as_noted.Given as goal

-- the documents and the ids so far stand in rows, before those that are left
abbrev pub invariant-loop-external : goal.invariant-loop-external
invariant-loop-external l = record {
  documents : documents_in l.rows.items ++ l.external-iterator.b.rest.items ≡ l.initial.external-iterator.b.rest.items;
  ids : externals l.rows.items ++ l.external-iterator.a.rest.items ≡ l.initial.external-iterator.a.rest.items;
  back : AreReadBack l.rows.items;
}
