use Rattle.std.proofs.Common.{◌∙◌, subst, sym}
use Rattle.std.specs.Prelude.{◌≡◌, OnOk}
use Rattle.doc_index.specs.Left.{without_named}
use Rattle.index_changes.specs.Index.{Index}
use Rattle.index_changes.specs.Keyed.{IsKeyedWork}
use Rattle.index_changes.specs.PlanView.{work_view, IsGood, replace, remove}
use Rattle.index_changes.proofs.Keeping.{keyed-tried, keyed-updated}
use Rattle.index_core.proofs.index.IndexCore.work.Goals as goal

pub patch_settings-requires-clause-good : goal.patch_settings-requires-clause-good
patch_settings-requires-clause-good g c = subst (λ w. IsGood (work_view w)) c.in-Patch.is c.requires.good

pub invariant_of-self : goal.invariant_of-self
invariant_of-self g c =
    let comes = subst (λ w. IsKeyedWork c.self.inside.key (work_view w)) c.in-Replace.is (subst (λ (i : Index). IsKeyedWork i.key (work_view c.args.work)) (sym c.self.view_is) c.requires.keyed) in
    let put = c.replace_documents in
    record {
      keyed = keyed-tried put.result c.self.inside.key (replace c.in-Replace.rows.items) c.self.inside.store.content put.new.store.content put.ensures.stored put.ensures.stays c.self.invariant.keyed comes tt;
      rows = put.ensures.indexed;
      words = c.self.invariant.words;
      no_documents = put.ensures.no_documents;
    }

pub invariant_of-self-in-Update : goal.invariant_of-self-in-Update
invariant_of-self-in-Update g c =
    let comes = subst (λ w. IsKeyedWork c.self.inside.key (work_view w)) c.in-Update.is (subst (λ (i : Index). IsKeyedWork i.key (work_view c.args.work)) (sym c.self.view_is) c.requires.keyed) in
    let put = c.update_documents in
    record {
      keyed = keyed-updated put.result c.self.inside.key c.in-Update.rows.items c.self.inside.store.content put.new.store.content put.ensures.updated put.ensures.stays c.self.invariant.keyed comes put.ensures.back;
      rows = put.ensures.indexed;
      words = c.self.invariant.words;
      no_documents = put.ensures.no_documents;
    }

pub invariant_of-self-in-Remove : goal.invariant_of-self-in-Remove
invariant_of-self-in-Remove g c =
    let s = c.self.inside.store.content in
    let gone = c.remove_named in
    let now = gone.new.store.content in
    let done = subst (λ ids. OnOk gone.result (now ≡ without_named ids s)) c.as_slice-ids.ensures.value gone.ensures.removed in
    record {
      keyed = keyed-tried gone.result c.self.inside.key (remove c.in-Remove.ids.items) s now done gone.ensures.stays c.self.invariant.keyed tt tt;
      rows = gone.ensures.indexed;
      words = c.self.invariant.words;
      no_documents = gone.ensures.staged ∙ c.self.invariant.no_documents;
    }
