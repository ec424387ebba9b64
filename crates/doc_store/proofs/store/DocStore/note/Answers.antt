use Rattle.std.proofs.Common.{◌++◌, ◌∷◌, [], sym, subst}
use Rattle.doc_store.specs.Admitting.{IsNoted}
use Rattle.doc_store.specs.Slots.{content_of}
use Rattle.doc_store.specs.StoreView.{StoreView}
use Rattle.doc_store.specs.declared.admitting.NewPaths.{NewPaths}
use Rattle.doc_store.proofs.AdmittingLemmas.{noted-walked, noted-past, row-walked}
use Rattle.doc_store.proofs.store.DocStore.note.Goals as goal

pub returns-then-new : goal.returns-then-new
returns-then-new c = λ rows row same noted. noted-past c.args.self.now.content c.args.admitting.now rows c.args.new.now c.args.new.now noted row c.if-new.true

pub note_walk-requires : goal.note_walk-requires
note_walk-requires c =
    let noted = subst (λ (v : StoreView). IsNoted v.content c.args.admitting.now c.requires.0 c.args.new.now) (sym c.self.view_is) c.requires.1 in
    noted.few c.if-new.false

pub returns : goal.returns
returns c = λ rows row same given.
    let s = content_of c.self.inside.paths.paths c.self.inside.slots.slots in
    let a = c.args.admitting.now in
    let old = c.args.new.now in
    let new : NewPaths = record { fresh = c.note_walk.new.fresh; spent = c.in_ok-new.field-0 } in
    let noted = subst (λ (v : StoreView). IsNoted v.content a rows old) (sym c.self.view_is) given in
    let walk = c.in_ok-walk.walk.items in
    subst (λ (v : StoreView). IsNoted v.content a (rows ++ row ∷ []) new) c.self.view_is
    (noted-walked s a rows old new noted (row ∷ []) walk (row-walked rows row c.args.document.now walk (s.paths ++ a.added.paths) same c.in_ok-walk.ensures) c.if-new.false
    c.in_ok-new.ensures.noted c.in_ok-new.ensures.within c.in_ok-new.ensures.spent)
