use Rattle.std.proofs.Common.{◌≡◌}
use Rattle.doc_index.proofs.LeftLemmas.{Clearing}
use Rattle.doc_index.proofs.store.clear_documents.Given as goal

abbrev pub invariant-loop-id : goal.invariant-loop-id
invariant-loop-id l = record {
  goes : Clearing l.initial.store.content l.store.content l.id;
  staged : l.store.staged ≡ l.initial.store.staged;
}
