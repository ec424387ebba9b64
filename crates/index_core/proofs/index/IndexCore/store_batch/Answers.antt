use Rattle.std.proofs.Common.{map, refl, sym, ap, ◌∙◌}
use Rattle.document_changes.specs.Changes.{kind_view}
use Rattle.doc_store.specs.Store.{Store}
use Rattle.index_changes.specs.Batches.{after_each, faults_of}
use Rattle.index_changes.specs.Index.{Index}
use Rattle.index_changes.proofs.Gathering.{keyed-gathered}
use Rattle.index_core.proofs.index.IndexCore.store_batch.Goals as goal

pub store_gathered-requires-clause-admitted : goal.store_gathered-requires-clause-admitted
store_gathered-requires-clause-admitted g c =
    let index : Index = record { key = c.self.inside.key; store = c.self.inside.store.content; settings = c.self.inside.settings } in
    (c.in_ok-key.ensures c.args.kind index (sym c.as_ref.ensures.value) refl c.requires.kind).admitted

pub invariant_of-self-2 : goal.invariant_of-self-2
invariant_of-self-2 g c =
    let index : Index = record { key = c.self.inside.key; store = c.self.inside.store.content; settings = c.self.inside.settings } in
    let gathered = c.in_ok-key.ensures c.args.kind index (sym c.as_ref.ensures.value) refl c.requires.kind in
    record {
      keyed = keyed-gathered c.args.kind (map kind_view c.args.changes.items) index c.in_ok-key.field-0 c.store_gathered.new.store.content c.self.invariant.keyed gathered c.in_ok-store_gathered.ensures.stored;
      rows = c.store_gathered.ensures.indexed;
      words = c.self.invariant.words;
      no_documents = c.store_gathered.ensures.no_documents;
    }

pub returns-clause-faults : goal.returns-clause-faults
returns-clause-faults g c =
    let index : Index = record { key = c.self.inside.key; store = c.self.inside.store.content; settings = c.self.inside.settings } in
    (c.in_ok-key.ensures c.args.kind index (sym c.as_ref.ensures.value) refl c.requires.kind).faults ∙ ap (faults_of (map kind_view c.args.changes.items)) c.self.view_is

pub returns-clause-applied : goal.returns-clause-applied
returns-clause-applied g c =
    let index : Index = record { key = c.self.inside.key; store = c.self.inside.store.content; settings = c.self.inside.settings } in
    let gathered = c.in_ok-key.ensures c.args.kind index (sym c.as_ref.ensures.value) refl c.requires.kind in
    ap (λ (s : Store). record { key = c.in_ok-key.field-0.key; store = s; settings = c.self.inside.settings }) c.in_ok-store_gathered.ensures.stored
    ∙ gathered.after ∙ ap (after_each (map kind_view c.args.changes.items)) c.self.view_is
