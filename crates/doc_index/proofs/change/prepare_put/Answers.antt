use Rattle.std.proofs.Common.{◌∙◌, [], sym, ap, length, subst}
use Rattle.std.proofs.lemmas.List.{length-map}
use Rattle.row_index.specs.Changes.{IsChangeOf}
use Rattle.doc_store.specs.Store.{externals, ids_given}
use Rattle.doc_index.specs.Documents.{documents_of}
use Rattle.doc_index.specs.Last.{last_of}
use Rattle.doc_index.specs.Named.{named}
use Rattle.doc_index.proofs.ReadyLemmas.{whole-of, put-ready, read-are}
use Rattle.doc_index.proofs.LastLemmas.{given-length, ok-both}
use Rattle.doc_index.proofs.change.prepare_put.Goals as goal

pub put_in-requires-clause-many : goal.put_in-requires-clause-many
put_in-requires-clause-many c = sym (length-map c.args.ids.now (λ id. id.0)) ∙ ap length c.requires.ids ∙ given-length c.args.documents.now c.args.store.now.content

pub returns-clause-ready : goal.returns-clause-ready
returns-clause-ready c =
    let paths = c.args.paths.now in
    let uses = c.args.uses.now in
    let s = c.args.store.now.content in
    let rs = c.args.documents.now in
    let gone = read-are paths uses c.args.replaced.now (named (externals rs) s.rows) c.requires.replaced in
    let changed : IsChangeOf c.put_in.new.change (documents_of paths uses (named (externals rs) s.rows)) (last_of paths uses (ids_given rs s) rs) =
    subst (λ ids. IsChangeOf c.put_in.new.change (documents_of paths uses (named (externals rs) s.rows)) (last_of paths uses ids rs)) c.requires.ids
    (c.in_ok-put_in.ensures _ (subst (λ documents. IsChangeOf c.take_out.new.change documents []) gone c.in_ok-take_out.ensures)) in
    ok-both _ _ _ c.prepare.result
    (λ prepared made room. put-ready paths uses rs s (whole-of s c.requires.sound) prepared c.prepare.new.self (made _ _ changed) room (c.prepare.ensures.same _ c.requires.stands))
    c.prepare.ensures.made c.prepare.ensures.room
