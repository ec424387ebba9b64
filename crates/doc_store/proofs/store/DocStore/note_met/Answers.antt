use Rattle.std.proofs.Common.{◌++◌, [], sym, subst}
use Rattle.doc_store.specs.Admitting.{IsAdmitting, IsNoted}
use Rattle.doc_store.specs.Slots.{content_of}
use Rattle.doc_store.specs.StoreView.{StoreView}
use Rattle.doc_store.specs.declared.admitting.NewPaths.{NewPaths}
use Rattle.doc_store.proofs.AdmittingLemmas.{noted-walked, not-spent-yet}
use Rattle.doc_store.proofs.MetLemmas.{met-walked}
use Rattle.doc_store.proofs.store.DocStore.note_met.Goals as goal

pub note_walk-requires : goal.note_walk-requires
note_walk-requires c =
    let s = content_of c.self.inside.paths.paths c.self.inside.slots.slots in
    let a = c.args.admitting.now in
    let h = subst (λ (v : StoreView). IsAdmitting v.ids v.content c.requires.0 a) (sym c.self.view_is) c.requires.1 in
    let noted = c.new_paths-new.ensures c.self.inside.ids s c.requires.0 h in
    noted.few (not-spent-yet c.self.inside.ids s c.requires.0 a c.new_paths-new.result h noted)

pub returns : goal.returns
returns c = λ rows met.
    let s = content_of c.self.inside.paths.paths c.self.inside.slots.slots in
    let a = c.args.admitting.now in
    let old = c.new_paths-new.result in
    let new : NewPaths = record { fresh = c.note_walk.new.fresh; spent = c.in_ok-new.field-0 } in
    let h = subst (λ (v : StoreView). IsAdmitting v.ids v.content c.requires.0 a) (sym c.self.view_is) c.requires.1 in
    let noted = c.new_paths-new.ensures c.self.inside.ids s c.requires.0 h in
    subst (λ (v : StoreView). IsNoted v.content a rows new) c.self.view_is
    (noted-walked s a [] old new noted rows c.args.met.items (met-walked c.args.met.items rows (s.paths ++ a.added.paths) met)
    (not-spent-yet c.self.inside.ids s c.requires.0 a old h noted) c.in_ok-new.ensures.noted c.in_ok-new.ensures.within c.in_ok-new.ensures.spent)
