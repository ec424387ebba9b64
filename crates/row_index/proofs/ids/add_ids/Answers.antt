use Rattle.row_index.proofs.IdLemmas.{has_one_more}
use Rattle.row_index.proofs.ids.add_ids.Goals as goal

pub loop-id-preserved : goal.loop-id-preserved
loop-id-preserved c =
    has_one_more c.operations_are_on_members.ensures c.args.ids.now c.loop-id.id-index _ c.args.set.now c.loop-id.set c.add_id.new.self c.loop-id-test.true
    c.loop-id.invariant c.in_ok-add_id.ensures.ids
