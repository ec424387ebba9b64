use Rattle.std.proofs.Common.{◌≡◌, ◌+◌, List, sym, ap, subst, ◌∙◌}
use Rattle.serde_json.specs.Data.{Data}
use Rattle.search_base.specs.Trying.{refused_as}
use Rattle.doc_values.specs.Ids.{external_id_of}
use Rattle.doc_values.specs.Stored.{document_at}
use Rattle.doc_store.specs.Admitting.{IsNoted}
use Rattle.doc_store.specs.declared.rows.StoreRow.{StoreRow as Row}
use Rattle.index_changes.specs.Keyed.{AreReadBack}
use Rattle.index_changes.specs.Refusals.{id_refusal}
use Rattle.index_changes.specs.Plans.{rows_under as rows_from}
use Rattle.index_changes.proofs.Behind.{after_these}
use Rattle.index_changes.proofs.Noting.{after-none, one-more, back-more}
use Rattle.index_changes.proofs.external_ids.rows_noted_under.Goals as goal

pub loop-text-init : goal.loop-text-init
loop-text-init c =
    let all = rows_from c.args.key.now 1 c.into_iter-text-iterator.result.rest.items in
    let none = sym c.in_ok-rows.ensures.items in
    record {
      rows = subst (λ (rows : List Row). all ≡ after_these rows all) none (after-none all);
      back = subst AreReadBack none tt;
      noted = subst (λ (rows : List Row). IsNoted c.args.store.now.content c.args.admitting.now rows c.new_paths-paths.result) none
          (c.new_paths-paths.ensures c.args.store.now.ids c.args.store.now.content c.requires.0 c.requires.1);
    }

pub loop-text-preserved-in_ok-push-3 : goal.loop-text-preserved-in_ok-push-3
loop-text-preserved-in_ok-push-3 c =
    let found = c.loop-text.rows.items in
    let row : Row = record { external = c.in_ok-external.external; document = c.in-Some.text } in
    let left = c.next.new.self.rest.items in
    let place = c.loop-text.before + 1 in
    let key = c.args.key.now in
    let all = rows_from key 1 c.into_iter-text-iterator.result.rest.items in
    let id = ap (λ (d : Data). refused_as (id_refusal place) (external_id_of key d)) (sym c.in_ok-document.ensures) ∙ c.in_ok-external.ensures in
    let items = sym c.in_ok-push.ensures.items in
    record {
      rows = subst (λ (rows : List Row). all ≡ after_these rows (rows_from key (place + 1) left)) items
          (c.loop-text.invariant.rows ∙ ap (λ (ds : List Data). after_these found (rows_from key place ds)) c.in-Some.ensures.steps.0 ∙ one-more key place found row left id);
      back = subst AreReadBack items (back-more found row c.loop-text.invariant.back (ap document_at (sym c.text-text.ensures.text) ∙ c.text-text.ensures.back));
      noted = subst (λ (rows : List Row). IsNoted c.args.store.now.content c.args.admitting.now rows c.note.new.new) items
          (c.in_ok-note.ensures found row (sym c.in_ok-document.ensures) c.loop-text.invariant.noted);
    }
