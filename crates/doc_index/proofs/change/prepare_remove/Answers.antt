use Rattle.std.proofs.Common.{[], subst}
use Rattle.row_index.specs.Changes.{IsChangeOf}
use Rattle.doc_index.specs.Documents.{documents_of}
use Rattle.doc_index.specs.Named.{named}
use Rattle.doc_index.proofs.ReadyLemmas.{whole-of, remove-ready, read-are}
use Rattle.doc_index.proofs.LastLemmas.{ok-both}
use Rattle.doc_index.proofs.change.prepare_remove.Goals as goal

pub returns-clause-ready : goal.returns-clause-ready
returns-clause-ready c =
    let paths = c.args.paths.now in
    let uses = c.args.uses.now in
    let s = c.args.store.now.content in
    let names = c.args.externals.now in
    let changed : IsChangeOf c.take_out.new.change (documents_of paths uses (named names s.rows)) [] =
    subst (λ documents. IsChangeOf c.take_out.new.change documents []) (read-are paths uses c.args.removed.now (named names s.rows) c.requires.removed) c.in_ok-take_out.ensures in
    ok-both _ _ _ c.prepare.result
    (λ prepared made room. remove-ready paths uses names s (whole-of s c.requires.sound) prepared c.prepare.new.self (made _ _ changed) room (c.prepare.ensures.same _ c.requires.stands))
    c.prepare.ensures.made c.prepare.ensures.room
