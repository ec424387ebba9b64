use Rattle.std.proofs.Common.{◌≡◌, ◌++◌, [], sym, ap, ◌∙◌, append-nil}
use Rattle.std.proofs.lemmas.List.{nil_from_length}
use Rattle.std.specs.List.{filter_map}
use Rattle.index_changes.proofs.Imaging.{document_at, documents-read}
use Rattle.index_changes.proofs.image.image_documents.Goals as goal

pub returns : goal.returns
returns c =
    let s = c.args.store.now.content in
    let rest = c.loop-id.id-iterator.rest in
    let none : rest.items ≡ [] = nil_from_length rest.items (sym rest.ok.0 ∙ c.in-None.ensures.steps.0) in
    sym (append-nil c.loop-id.documents.items) ∙ ap (λ v. c.loop-id.documents.items ++ filter_map (document_at s.rows) v) (sym none) ∙ c.loop-id.invariant
    ∙ ap (filter_map (document_at s.rows)) c.into_iter-id-iterator.ensures.into_iter_gives.0 ∙ documents-read s c.in_ok-ids.ids.items c.len.result c.requires c.len.ensures.count c.in_ok-ids.ensures
