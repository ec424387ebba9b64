use Rattle.std.proofs.Common.{◌≡◌, sym, ap, ◌∙◌, subst}
use Rattle.std.specs.Prelude.{OnOk}
use Rattle.doc_index.specs.Named.{named, AreRead}
use Rattle.doc_store.specs.Store.{externals}
use Rattle.index_changes.proofs.change.store_gathered.Goals as goal

pub put_rows-requires-clause-replaced : goal.put_rows-requires-clause-replaced
put_rows-requires-clause-replaced g c =
    let s = c.args.store.now.content in
    let ids : c.as_slice-2.result.now ≡ externals c.in_ok-rows.rows.items =
    c.as_slice-2.ensures.value ∙ c.in_ok-ids.ensures ∙ ap externals c.as_slice.ensures.value ∙ sym c.in_ok-rows.ensures.ids in
    subst (λ v. AreRead v (named (externals c.in_ok-rows.rows.items) s.rows)) (sym c.as_slice-replaced.ensures.value)
    (subst (λ v. AreRead c.in_ok-replaced.replaced.items (named v s.rows)) ids c.in_ok-replaced.ensures.found)

pub put_rows-requires-clause-admitted : goal.put_rows-requires-clause-admitted
put_rows-requires-clause-admitted g c = c.in_ok-rows.ensures.admitted c.args.admission c.requires.admitted

pub returns-clause-stored : goal.returns-clause-stored
returns-clause-stored g c = subst (λ v. OnOk c.put_rows.result (c.put_rows.new.store.content ≡ v)) c.in_ok-rows.ensures.stored c.put_rows.ensures.stored
