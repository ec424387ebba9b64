use Rattle.std.proofs.Common.{◌++◌, map, refl}
use Rattle.std.proofs.lemmas.Result.{err_from_is_err_and}
use Rattle.doc_store.specs.declared.rows.StoreRefusal.TheVariants.{IdsSpent}
use Rattle.doc_store.specs.declared.rows.TheConstants.{MAX_IDS}
use Rattle.doc_store.specs.Store.{all_stored, ids_given}
use Rattle.doc_store.proofs.GivenLemmas.{reached_item, within_item}
use Rattle.doc_store.proofs.SpentLemmas.{carried, refused-grows}
use Rattle.doc_store.proofs.given.more_ids.Goals as goal

pub returns-in_err-id-clause-spent : goal.returns-in_err-id-clause-spent
returns-in_err-id-clause-spent c = λ s h.
    let p = err_from_is_err_and c.from_residual-in_err-id.result c.from_residual-in_err-id.ensures.1 in
    let within = within_item c.args.rows.now c.loop-row.row-index c.row-item.result c.row-item.result.external (all_stored c.args.rows.now s) (map (λ d. d.0) c.args.given.now.items ++ ids_given c.args.rows.now s)
    c.args.ids.now c.loop-row.fresh c.loop-row.free (map (λ d. d.0) c.loop-row.given.items)
    c.loop-row-test.true c.row-item.is refl (c.loop-row.invariant.1 s h) in
    rw (p.1, p.2) (carried _ _ _ (λ why e. refused-grows MAX_IDS _ _ IdsSpent why within e) c.in_err-id.ensures.spent)

pub loop-row-preserved : goal.loop-row-preserved
loop-row-preserved c = (
  c.in_ok-id.ensures.within,
  λ s h.
      reached_item c.args.rows.now c.loop-row.row-index c.row-item.result c.row-item.result.external (all_stored c.args.rows.now s) (map (λ d. d.0) c.args.given.now.items ++ ids_given c.args.rows.now s)
      c.args.ids.now c.loop-row.fresh c.give_id.new.fresh c.loop-row.free c.give_id.new.free
      c.loop-row.given.items c.push.new.self.items c.in_ok-id.id
      c.loop-row-test.true c.row-item.is refl (c.loop-row.invariant.1 s h)
      c.in_ok-id.ensures.id c.in_ok-id.ensures.free c.in_ok-id.ensures.known c.in_ok-push.ensures.items,
)
