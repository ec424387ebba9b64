use Rattle.std.proofs.Common.{◌≡◌, ◌+◌, Option, Some, None, refl, ap, ◌∙◌, sym, cond, true}
use Rattle.std.specs.Option.{option_map, is_some}
use Rattle.doc_store.specs.Store.{id_of}
use Rattle.index_changes.specs.Index.{Index, document_under}
use Rattle.index_changes.proofs.ByIds.{document-under, no-document-under}
use Rattle.index_core.proofs.index.IndexCore.get.Goals as goal

pub returns-in-Some-clause-document : goal.returns-in-Some-clause-document
returns-in-Some-clause-document g c =
    let s = c.self.inside.store.content in
    let external = c.args.external.now in
    let found : id_of external s.rows ≡ Some c.in-Some.id.0 = sym c.id_of.ensures ∙ ap (option_map (λ id. id.0)) c.in-Some.is in
    c.fetch.ensures.document ∙ (document-under external s c.in-Some.id.0 c.self.invariant.rows.sound found).0 ∙ ap (λ (i : Index). document_under external i.store.rows) c.self.view_is

same-some : {A B : Type 0} (f : A → B) (o : Option A) → is_some o ≡ is_some (option_map f o)
same-some f None = refl
same-some f (Some x) = refl

pub returns-in-Some-clause-fetches : goal.returns-in-Some-clause-fetches
returns-in-Some-clause-fetches g c =
    let s = c.self.inside.store.content in
    let external = c.args.external.now in
    let found : id_of external s.rows ≡ Some c.in-Some.id.0 = sym c.id_of.ensures ∙ ap (option_map (λ id. id.0)) c.in-Some.is in
    let both = document-under external s c.in-Some.id.0 c.self.invariant.rows.sound found in
    let some : is_some (option_map (λ document. document.now) c.fetch.result) ≡ true = ap is_some (c.fetch.ensures.document ∙ both.0) ∙ both.1 in
    c.fetch.ensures.step ∙ ap (λ b. c.args.fetches.now + cond b 1 0) (sym (same-some (λ document. document.now) c.fetch.result ∙ some))

pub returns-in-None-clause-document : goal.returns-in-None-clause-document
returns-in-None-clause-document g c =
    let s = c.self.inside.store.content in
    let none : id_of c.args.external.now s.rows ≡ None = sym c.id_of.ensures ∙ ap (option_map (λ id. id.0)) c.in-None.is in
    sym (ap (λ (i : Index). document_under c.args.external.now i.store.rows) (sym c.self.view_is) ∙ no-document-under c.args.external.now s none)
