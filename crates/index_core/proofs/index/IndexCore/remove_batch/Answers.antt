use Rattle.std.proofs.Common.{◌≡◌, ◌≤◌, length, map, None, sym, ap, subst, ◌∙◌, arith, rules}
use Rattle.std.specs.Prelude.{flat_map, replicate}
use Rattle.std.proofs.lemmas.List.{length-map}
use Rattle.document_changes.specs.Changes.{kind_view}
use Rattle.doc_index.specs.Left.{without_named}
use Rattle.doc_index.specs.Named.{named}
use Rattle.doc_store.specs.Store.{Store}
use Rattle.index_changes.specs.Batches.{after_each, batch_needed, faults_of, names_in}
use Rattle.index_changes.specs.Index.{Index}
use Rattle.index_changes.specs.PlanView.{remove}
use Rattle.index_changes.proofs.Batching.{removed-all, removed-needed}
use Rattle.index_changes.proofs.Keeping.{keyed-after}
use Rattle.index_core.proofs.index.IndexCore.remove_batch.Goals as goal

pub invariant_of-self-2 : goal.invariant_of-self-2
invariant_of-self-2 g c =
    let gone = c.remove_named in
    record {
      keyed = keyed-after c.self.inside.key (remove c.as_slice.result.now) c.self.inside.store.content gone.new.store.content c.self.invariant.keyed tt tt c.in_ok-remove_named.ensures.removed;
      rows = gone.ensures.indexed;
      words = c.self.invariant.words;
      no_documents = gone.ensures.staged ∙ c.self.invariant.no_documents;
    }

pub returns-clause-faults : goal.returns-clause-faults
returns-clause-faults g c =
    let all = map kind_view c.args.changes.items in
    let index : Index = record { key = c.self.inside.key; store = c.self.inside.store.content; settings = c.self.inside.settings } in
    let many : c.len.result ≡ length c.args.changes.items = search rules in
    c.in_ok-faults.ensures ∙ ap (λ n. replicate n None) (many ∙ sym (length-map c.args.changes.items kind_view))
    ∙ sym (removed-all all index c.requires c.self.invariant.rows.sound).faults ∙ ap (faults_of all) c.self.view_is

pub returns-clause-applied : goal.returns-clause-applied
returns-clause-applied g c =
    let all = map kind_view c.args.changes.items in
    let s = c.self.inside.store.content in
    let index : Index = record { key = c.self.inside.key; store = s; settings = c.self.inside.settings } in
    let out = c.in_ok-remove_named.ensures.removed ∙ ap (λ ids. without_named ids s) (c.as_slice.ensures.value ∙ c.in_ok-ids.ensures) in
    ap (λ (t : Store). record { key = c.self.inside.key; store = t; settings = c.self.inside.settings }) out
    ∙ sym (removed-all all index c.requires c.self.invariant.rows.sound).after ∙ ap (after_each all) c.self.view_is

pub returns-in_err-remove_named-clause-at_most : goal.returns-in_err-remove_named-clause-at_most
returns-in_err-remove_named-clause-at_most g c =
    let all = map kind_view c.args.changes.items in
    let rows = c.self.inside.store.content.rows in
    let index : Index = record { key = c.self.inside.key; store = c.self.inside.store.content; settings = c.self.inside.settings } in
    let ids = c.as_slice.ensures.value ∙ c.in_ok-ids.ensures in
    let most : length (named c.as_slice.result.now rows) ≤ batch_needed all c.args.self.now =
    subst (λ (i : Index). length (named c.as_slice.result.now rows) ≤ batch_needed all i) c.self.view_is
    (subst (λ ids. length (named ids rows) ≤ batch_needed all index) (sym ids) (removed-needed all index c.requires)) in
    omega (arith, most, c.remove_named.ensures.at_most)

pub returns-clause-at_most : goal.returns-clause-at_most
returns-clause-at_most g c =
    let all = map kind_view c.args.changes.items in
    let rows = c.self.inside.store.content.rows in
    let index : Index = record { key = c.self.inside.key; store = c.self.inside.store.content; settings = c.self.inside.settings } in
    let ids = c.as_slice.ensures.value ∙ c.in_ok-ids.ensures in
    let most : length (named c.as_slice.result.now rows) ≤ batch_needed all c.args.self.now =
    subst (λ (i : Index). length (named c.as_slice.result.now rows) ≤ batch_needed all i) c.self.view_is
    (subst (λ ids. length (named ids rows) ≤ batch_needed all index) (sym ids) (removed-needed all index c.requires)) in
    omega (arith, most, c.remove_named.ensures.at_most)
