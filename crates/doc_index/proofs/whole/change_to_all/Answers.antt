use Rattle.std.proofs.Common.{◌≤◌, [], sym, ap, ◌∙◌, length, subst, arith}
use Rattle.doc_index.specs.Documents.{rising, with_document}
use Rattle.doc_store.specs.Store.{row_at}
use Rattle.row_index.specs.Changes.{IsChangeOf}
use Rattle.doc_index.proofs.RowLemmas.{from-all, from-none, counted-step, rising-step}
use Rattle.doc_index.proofs.whole.change_to_all.Goals as goal

pub loop-id-init : goal.loop-id-init
loop-id-init g c =
    let s = c.args.store.now.content in
    let all = from-all 0 0 s.rows s.next_id c.requires.sound.increase (omega arith) in
    record {
      change = ([], c.new-change.ensures, ap (λ rows. rising s.paths c.args.uses.now rows []) all);
      fetches = (let many = ap length all in omega (arith, many));
    }

pub loop-id-preserved : goal.loop-id-preserved
loop-id-preserved g c =
    let s = c.args.store.now.content in
    let uses = c.args.uses.now in
    let id = c.loop-id.id in
    let came = c.loop-id.invariant.change in
    let more = counted-step id 0 s.rows s.next_id c.requires.sound.increase in
    record {
      change = (
        with_document s.paths uses (row_at id s.rows) came.0,
        c.in_ok-put_stored.ensures.change came.0 came.1,
        sym (rising-step id 0 s.rows s.next_id c.requires.sound.increase s.paths uses came.0) ∙ came.2,
      );
      fetches = omega (arith, more, c.in_ok-put_stored.ensures.fetches, c.loop-id.invariant.fetches);
    }

pub returns-in_err-put_stored-clause-at_most : goal.returns-in_err-put_stored-clause-at_most
returns-in_err-put_stored-clause-at_most g c =
    let s = c.args.store.now.content in
    let more = counted-step c.loop-id.id 0 s.rows s.next_id c.requires.sound.increase in
    omega (arith, more, c.in_err-put_stored.ensures.at_most, c.loop-id.invariant.fetches)

pub returns-clause-change : goal.returns-clause-change
returns-clause-change g c =
    let s = c.args.store.now.content in
    let came = c.loop-id.invariant.change in
    let past : s.next_id ≤ c.loop-id.id = omega (arith, c.next_id-id-end.ensures, c.loop-id-test.false) in
    let none = from-none c.loop-id.id 0 s.rows s.next_id c.requires.sound.increase past in
    subst (IsChangeOf c.loop-id.change []) (ap (λ rows. rising s.paths c.args.uses.now rows came.0) (sym none) ∙ came.2) came.1

pub returns-clause-fetches : goal.returns-clause-fetches
returns-clause-fetches g c =
    let s = c.args.store.now.content in
    let past : s.next_id ≤ c.loop-id.id = omega (arith, c.next_id-id-end.ensures, c.loop-id-test.false) in
    let none = ap length (from-none c.loop-id.id 0 s.rows s.next_id c.requires.sound.increase past) in
    omega (arith, none, c.loop-id.invariant.fetches)

pub returns-clause-at_most : goal.returns-clause-at_most
returns-clause-at_most g c = omega (arith, c.loop-id.invariant.fetches)
