use Rattle.std.proofs.Common.{◌≡◌, ℕ, List, Option, sym, ap, ◌∙◌, subst}
use Rattle.std.specs.Prelude.{IfOk}
use Rattle.doc_store.specs.Store.{Store}
use Rattle.index_settings.specs.View.{SettingsView}
use Rattle.index_image.specs.Rows.{index_view}
use Rattle.index_changes.specs.Images.{index_of}
use Rattle.index_changes.specs.Index.{Index}
use Rattle.index_changes.specs.Keyed.{IsKeyed}
use Rattle.index_core.proofs.index.IndexCore.to_image.Goals as goal

pub image_of-requires-clause-keyed : goal.image_of-requires-clause-keyed
image_of-requires-clause-keyed c = subst (λ key. IsKeyed key c.self.inside.store.content.rows) (sym c.as_ref-key.ensures.value) c.self.invariant.keyed

pub returns-clause-index : goal.returns-clause-index
returns-clause-index c =
    let same = ap (λ key. index-with key c.self.inside.store.content c.self.inside.settings) c.as_ref-key.ensures.value ∙ c.self.view_is in
    subst (λ (index : Index). IfOk c.image_of.result (λ image. index_of (index_view image) ≡ index)) same c.image_of.ensures.index
  where
    index-with : (key : Option (List ℕ)) (store : Store) (settings : SettingsView) → Index
    index-with key store settings = record { key = key; store = store; settings = settings }
