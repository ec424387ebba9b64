use Rattle.std.proofs.Common.{◌≡◌, sym, ap, ◌∙◌, subst}
use Rattle.std.specs.Prelude.{OnOk}
use Rattle.std.specs.Option.{option_map}
use Rattle.search_base.specs.Gives.{Checks}
use Rattle.doc_index.specs.Named.{named, AreRead}
use Rattle.doc_store.specs.Store.{all_stored, externals, spent}
use Rattle.index_changes.specs.Refusals.{store_refusal}
use Rattle.index_changes.proofs.Replaced.{updated-ids, updated-stored}
use Rattle.index_changes.proofs.change.update_documents.Goals as goal

pub store_rows-requires-clause-replaced : goal.store_rows-requires-clause-replaced
store_rows-requires-clause-replaced g c =
    let s = c.args.store.now.content in
    let ids : c.as_slice-2.result.now ≡ externals c.in_ok-rows.rows.items =
    c.as_slice-2.ensures.value ∙ c.in_ok-ids.ensures ∙ ap externals c.as_slice.ensures.value ∙ sym (updated-ids c.args.updates.items s) ∙ ap externals (sym c.in_ok-rows.ensures.rows) in
    subst (λ v. AreRead v (named (externals c.in_ok-rows.rows.items) s.rows)) (sym c.as_slice-replaced.ensures.value)
    (subst (λ v. AreRead c.in_ok-replaced.replaced.items (named v s.rows)) ids c.in_ok-replaced.ensures.found)

pub returns-clause-updated : goal.returns-clause-updated
returns-clause-updated g c =
    let s = c.args.store.now.content in
    let same = ap (λ v. all_stored v s) c.in_ok-rows.ensures.rows ∙ updated-stored c.args.updates.items s c.requires.indexed.sound c.in_ok-rows.ensures.back in
    subst (λ v. OnOk c.store_rows.result (c.store_rows.new.store.content ≡ v)) same c.store_rows.ensures.stored

pub returns-clause-within : goal.returns-clause-within
returns-clause-within g c =
    let s = c.args.store.now.content in
    let same = ap (λ v. all_stored v s) c.in_ok-rows.ensures.rows ∙ updated-stored c.args.updates.items s c.requires.indexed.sound c.in_ok-rows.ensures.back in
    subst (λ v. Checks c.store_rows.result (option_map store_refusal (spent v))) same c.store_rows.ensures.within
