use Rattle.std.proofs.Common.{ap, ◌∙◌, take, drop}
use Rattle.std.specs.Option.{option_map}
use Rattle.std.specs.List.{filter_map}
use Rattle.doc_store.specs.Store.{row_at}
use Rattle.index_changes.specs.Index.{Index, documents}
use Rattle.index_changes.proofs.ByIds.{part-read}
use Rattle.index_core.proofs.index.IndexCore.list.Goals as goal

pub returns-clause-documents : goal.returns-clause-documents
returns-clause-documents g c =
    let s = c.self.inside.store.content in
    c.in_ok-documents.ensures.documents ∙ ap (filter_map (λ id. option_map (λ row. row.document) (row_at id.0 s.rows))) c.as_slice.ensures.value
    ∙ part-read s c.in_ok-ids.ids.items c.args.offset c.args.limit c.self.invariant.rows.sound c.in_ok-ids.ensures ∙ ap (λ (i : Index). take c.args.limit (drop c.args.offset (documents i))) c.self.view_is
