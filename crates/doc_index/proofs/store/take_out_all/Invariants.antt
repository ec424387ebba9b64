use Rattle.std.proofs.Common.{◌≡◌, map, drop}
use Rattle.doc_index.proofs.LeftLemmas.{removed_all}
use Rattle.doc_index.proofs.store.take_out_all.Given as goal

abbrev pub invariant-loop-document : goal.invariant-loop-document
invariant-loop-document l = record {
  removed : removed_all (map (λ f. f.id.0) (drop l.document-index l.removed)) l.store.content ≡ removed_all (map (λ f. f.id.0) l.removed) l.initial.store.content;
  staged : l.store.staged ≡ l.initial.store.staged;
}
