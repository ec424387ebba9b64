use Rattle.std.proofs.Common.{◌<◌, ◌≤◌, ◌∙◌, arith}
use Rattle.doc_index.proofs.LeftLemmas.{clearing-one, clearing-end}
use Rattle.doc_index.proofs.store.clear_documents.Goals as goal

pub loop-id-preserved : goal.loop-id-preserved
loop-id-preserved c =
    let now = c.loop-id.store.content in
    let less : c.loop-id.id < now.next_id = omega (arith, c.loop-id.invariant.goes.next_id, c.next_id-id-end.ensures, c.loop-id-test.true) in
    record {
      goes = clearing-one c.args.store.now.content now c.remove-there.new.self.content c.loop-id.id c.remove-there.ensures.content less c.loop-id.invariant.goes;
      staged = c.remove-there.ensures.staged ∙ c.loop-id.invariant.staged;
    }

pub returns-clause-cleared : goal.returns-clause-cleared
returns-clause-cleared c =
    let now = c.loop-id.store.content in
    let past : now.next_id ≤ c.loop-id.id = omega (arith, c.loop-id.invariant.goes.next_id, c.next_id-id-end.ensures, c.loop-id-test.false) in
    clearing-end c.args.store.now.content now c.loop-id.id past c.loop-id.invariant.goes
