use Rattle.doc_index.specs.Documents.{rising}
use Rattle.doc_index.proofs.RisingLemmas.{ok-more, apart-rising, stands-rising}
use Rattle.std.proofs.Common.{[]}
use Rattle.doc_index.proofs.whole.index_of_all.Goals as goal

pub returns-clause-stands : goal.returns-clause-stands
returns-clause-stands g c =
    let s = c.args.store.now.content in
    let uses = c.args.uses.now in
    ok-more _ _ c.index_of_change.result (λ index told.
    stands-rising s.paths uses _ 0 s.rows s.next_id c.requires.sound.increase
    (told (rising s.paths uses s.rows []) c.in_ok-change.ensures.change (apart-rising s.paths uses 0 s.rows s.next_id c.requires.sound.increase)))
    c.index_of_change.ensures.stands
