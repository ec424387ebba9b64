use Rattle.std.proofs.Common.{length, ap, subst, sym, ◌∙◌, arith}
use Rattle.doc_index.specs.Documents.{documents_of}
use Rattle.doc_search.specs.Ranked.{RankedBelow}
use Rattle.doc_search.specs.Searched.{documents_in}
use Rattle.row_index.specs.Standing.{StandsFor}
use Rattle.search_settings.specs.Uses.{uses_from}
use Rattle.index_changes.specs.Index.{Index}
use Rattle.index_core.specs.Matching.{uses_in}
use Rattle.index_core.proofs.index.IndexCore.documents.Goals as goal

pub ranks_are_low-requires : goal.ranks_are_low-requires
ranks_are_low-requires c =
    let most = c.self.invariant.rows.sound.paths_within in
    omega (arith, ap length c.paths.ensures)

pub new-requires-clause-sound : goal.new-requires-clause-sound
new-requires-clause-sound c = c.self.invariant.rows.sound

pub new-requires-clause-ranks : goal.new-requires-clause-ranks
new-requires-clause-ranks c =
    let settings = c.self.inside.settings in
    subst (RankedBelow 65535) (sym (c.as_slice-uses.ensures.value ∙ c.self.invariant.rows.uses ∙ ap (uses_from settings 0) (sym c.paths.ensures))) c.ranks_are_low.ensures

pub new-requires-clause-stands : goal.new-requires-clause-stands
new-requires-clause-stands c =
    let store = c.self.inside.store.content in
    subst (λ uses. StandsFor c.self.inside.kept.rows (documents_of store.paths uses store.rows)) (sym (c.as_slice-uses.ensures.value ∙ c.self.invariant.rows.uses)) c.self.invariant.rows.stands

pub returns : goal.returns
returns c =
    let index : Index = record { key = c.self.inside.key; store = c.self.inside.store.content; settings = c.self.inside.settings } in
    c.in_ok-documents.ensures
    ∙ ap (documents_in index.store) (c.as_slice-uses.ensures.value ∙ c.self.invariant.rows.uses)
    ∙ ap (λ (i : Index). documents_in i.store (uses_in i)) c.self.view_is
