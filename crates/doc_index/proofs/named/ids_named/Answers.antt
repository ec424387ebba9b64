use Rattle.std.proofs.Common.{◌∙◌, sym, ap}
use Rattle.doc_sets.specs.Sets.{with_id}
use Rattle.doc_index.proofs.NamedLemmas.{named-step, named-none, none-named}
use Rattle.doc_index.proofs.named.ids_named.Goals.{in-Some+in_ok-add_id, in_default}
use Rattle.doc_index.proofs.named.ids_named.Goals as goal

pub loop-external-init : goal.loop-external-init
loop-external-init c = c.in_ok-ids.ensures ∙ none-named c.args.store.now.content.rows

pub loop-external-preserved : goal.loop-external-preserved
loop-external-preserved c =
    let rows = c.args.store.now.content.rows in
    let externals = c.args.externals.now in
    let i = c.loop-external.external-index in
    let external = c.external-item.result in
    elim c.match-id_of.branch [
      | in-Some+in_ok-add_id w ↦
          w.ids-is ∙ w.in_ok-add_id.ensures.ids ∙ ap (with_id w.in-Some.id.0) c.loop-external.invariant
          ∙ named-step externals i external w.in-Some.id.0 0 rows c.args.store.now.content.next_id c.requires.increase c.requires.apart c.loop-external-test.true c.external-item.is (sym w.in-Some.ensures)
      | in_default w ↦ w.ids-is ∙ c.loop-external.invariant ∙ named-none externals i external rows c.loop-external-test.true c.external-item.is (sym w.in_default.ensures)
    ]
