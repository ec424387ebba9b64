use Rattle.std.proofs.Common.{◌≡◌, map, take}
use Rattle.path_registry.specs.Met.{AreMet}
use Rattle.tests_documents.proofs.stores.met.Given as goal

abbrev pub invariant-loop-document : goal.invariant-loop-document
invariant-loop-document g l =
    AreMet (take l.document-index l.documents) l.met × (map (λ r. r.document) l.rows.items ≡ take l.document-index l.documents)
