use Rattle.std.proofs.Common.{◌≡◌, ◌++◌}
use Rattle.std.specs.List.{filter_map}
use Rattle.index_changes.proofs.Imaging.{document_at}
use Rattle.index_changes.proofs.image.image_documents.Given as goal

-- the documents so far, and those of the ids that are left
abbrev pub invariant-loop-id : goal.invariant-loop-id
invariant-loop-id l =
    l.documents.items ++ filter_map (document_at l.store.content.rows) l.id-iterator.rest.items ≡ filter_map (document_at l.store.content.rows) l.initial.id-iterator.rest.items
