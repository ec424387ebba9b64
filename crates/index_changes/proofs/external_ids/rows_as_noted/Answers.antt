use Rattle.std.proofs.Common.{◌≡◌, List, [], sym, ap, ◌∙◌}
use Rattle.serde_json.specs.Data.{Data}
use Rattle.path_registry.specs.Met.{all_registered}
use Rattle.doc_store.specs.Store.{externals}
use Rattle.document_changes.specs.Notes.{AreIdsUnder}
use Rattle.index_changes.specs.Plans.{rows_under as rows_from}
use Rattle.index_changes.proofs.Noting.{documents_in, rows-given, all-given}
use Rattle.index_changes.proofs.external_ids.rows_as_noted.Goals as goal

-- the rows hold all of the documents, each under its id
each_stands : (c : goal.In_ok-new) → (documents_in c.loop-external.rows.items ≡ c.args.noted.texts.items) × (externals c.loop-external.rows.items ≡ c.args.noted.ids.items)
each_stands c =
    let left = c.loop-external.external-iterator in
    let gives = c.into_iter-external-iterator.ensures.into_iter_gives in
    all-given c.requires.ids.0 c.args.noted.texts.items c.args.noted.ids.items c.loop-external.rows.items left.b.rest.items left.a.rest.items c.requires.ids.1
    (c.loop-external.invariant.documents ∙ ap (λ zipped. zipped.b.rest.items) gives ∙ c.zip-external-items.ensures.second.0)
    (c.loop-external.invariant.ids ∙ ap (λ zipped. zipped.a.rest.items) gives ∙ ap (λ ids. ids.rest.items) c.zip-external-items.ensures.first ∙ c.into_iter.ensures.rest)
    c.in-None.ensures.steps (λ end. sym left.a.rest.ok.0 ∙ end.1.0) (λ end. sym left.b.rest.ok.0 ∙ end.1.0)

pub returns-clause-rows : goal.returns-clause-rows
returns-clause-rows c key are =
    let rows = c.loop-external.rows.items in
    let documents = (each_stands c).0 in
    let ids = (each_stands c).1 in
    let given : AreIdsUnder key (documents_in rows) (externals rows) = cc in
    ap (rows_from key 1) (sym documents) ∙ rows-given key 1 rows given

pub returns-clause-noted : goal.returns-clause-noted
returns-clause-noted c =
    c.in_ok-new.ensures c.loop-external.rows.items (c.requires.paths ∙ ap (λ (ds : List Data). all_registered ds []) (sym (each_stands c).0))
