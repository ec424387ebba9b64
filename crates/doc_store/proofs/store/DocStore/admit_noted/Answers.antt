use Rattle.std.proofs.Common.{◌∙◌, ◌≤◌, ◌++◌, ℕ, sym, ap, subst, length, length-append, append_assoc, arith}
use Rattle.std.proofs.lemmas.Result.{err_from_is_err_and}
use Rattle.doc_store.specs.declared.admitting.Admitting.{Admitting}
use Rattle.doc_store.specs.Admitting.{IsAdmitting, IsNoted, if_spent}
use Rattle.doc_store.specs.Slots.{content_of}
use Rattle.doc_store.specs.Store.{Store, all_stored, ids_spent, paths_after, paths_spent, spent}
use Rattle.doc_store.specs.StoreView.{StoreView}
use Rattle.doc_store.proofs.AdmittingLemmas.{stored_join, paths_join, admitted_more, spent-noted}
use Rattle.doc_store.proofs.StoreLemmas.{ids-refused, paths-refused}
use Rattle.doc_store.proofs.SpentLemmas.{carried}
use Rattle.doc_store.proofs.store.DocStore.admit_noted.Goals as goal

pub returns-in_err-more_ids-clause-refused : goal.returns-in_err-more_ids-clause-refused
returns-in_err-more_ids-clause-refused c = λ before given.
    let p = err_from_is_err_and c.from_residual.result c.from_residual.ensures.1 in
    let s = content_of c.self.inside.paths.paths c.self.inside.slots.slots in
    let rows = c.args.rows.now in
    let all = before ++ rows in
    let h = subst (λ (v : StoreView). IsAdmitting v.ids v.content before c.args.admitting.now) (sym c.self.view_is) given in
    let join = ap (λ (t : Store). ids_spent t.next_id) (stored_join before rows s) in
    rw (p.1, p.2)
    (carried _ (ids_spent (all_stored rows (all_stored before s)).next_id) _
    (λ why e. ap (λ (v : StoreView). spent (all_stored all v.content)) (sym c.self.view_is) ∙ ids-refused s all why (join ∙ e)) (c.in_err-more_ids.ensures.spent (all_stored before s) h.known))

pub returns-in_err-add_noted-clause-refused : goal.returns-in_err-add_noted-clause-refused
returns-in_err-add_noted-clause-refused c = λ before given.
    let p = err_from_is_err_and c.from_residual-in_err-add_noted.result c.from_residual-in_err-add_noted.ensures.1 in
    let s = content_of c.self.inside.paths.paths c.self.inside.slots.slots in
    let rows = c.args.rows.now in
    let all = before ++ rows in
    let h = subst (λ (v : StoreView). IsAdmitting v.ids v.content before c.args.admitting.now) (sym c.self.view_is) given in
    let noted = subst (λ (v : StoreView). IsNoted v.content c.args.admitting.now rows c.args.new) (sym c.self.view_is) c.requires.noted in
    let known = c.in_ok-more_ids.ensures.known (all_stored before s) h.known in
    let within : (all_stored all s).next_id ≤ 1000000 = subst (λ (n : ℕ). n ≤ 1000000) (sym (ap (λ (t : Store). t.next_id) (stored_join before rows s) ∙ known.next)) c.in_ok-more_ids.ensures.within in
    let paths = ap (paths_after rows) h.paths ∙ sym (paths_join before rows s.paths) in
    rw (p.1, p.2) (carried _ (if_spent c.args.new.spent) _
    (λ why e. ap (λ (v : StoreView). spent (all_stored all v.content)) (sym c.self.view_is) ∙ paths-refused s all why within (ap paths_spent (sym paths) ∙ spent-noted s c.args.admitting.now rows c.args.new why noted e))
    c.in_err-add_noted.ensures.spent)

pub returns-clause-more : goal.returns-clause-more
returns-clause-more c = λ before given.
    let s = content_of c.self.inside.paths.paths c.self.inside.slots.slots in
    let rows = c.args.rows.now in
    let h = subst (λ (v : StoreView). IsAdmitting v.ids v.content before c.args.admitting.now) (sym c.self.view_is) given in
    let noted = subst (λ (v : StoreView). IsNoted v.content c.args.admitting.now rows c.args.new) (sym c.self.view_is) c.requires.noted in
    let now : Admitting = record { fresh = c.more_ids.new.fresh; free = c.more_ids.new.free; ids = c.more_ids.new.given; added = c.add_noted.new.added } in
    let few = c.in_ok-add_noted.ensures.few in
    let added = c.in_ok-add_noted.ensures.added in
    let old = c.args.admitting.now.added.paths in
    subst (λ (v : StoreView). IsAdmitting v.ids v.content (before ++ rows) now) c.self.view_is
    (admitted_more c.self.inside.ids s before rows c.args.admitting.now now h
    (c.in_ok-more_ids.ensures.known (all_stored before s) h.known) (c.in_ok-more_ids.ensures.given (all_stored before s) h.known)
    (ap (λ ps. s.paths ++ ps) added ∙ sym (append_assoc s.paths old c.args.new.fresh.paths) ∙ noted.paths few) c.in_ok-more_ids.ensures.within
    (omega (arith, noted.few few, ap length added, length-append old c.args.new.fresh.paths)))
