use Rattle.std.proofs.Common.{◌+◌, ◌∙◌, sym, ap, subst, arith}
use Rattle.std.proofs.lemmas.List.{take_rest}
use Rattle.search_base.specs.Least.{least_by}
use Rattle.plain_rank.specs.Near.{near_both, InOrder}
use Rattle.plain_rank.proofs.NearLemmas.{order-rest, near-step, near-end}
use Rattle.plain_rank.proofs.near.least_near.Goals as goal

pub near_of-near-requires : goal.near_of-near-requires
near_of-near-requires c =
    let places = c.args.places.now in
    let rest = order-rest places c.loop-i.i c.index-places-i.result (omega arith) c.index-places-i.is c.loop-i.invariant.order in
    subst InOrder (sym (take_rest places (c.loop-i.i + 1))) rest.1

pub loop-i-preserved : goal.loop-i-preserved
loop-i-preserved c =
    let places = c.args.places.now in
    let i = c.loop-i.i in
    let place = c.index-places-i.result in
    let each = near_both c.args.left.now c.args.prefix c.args.right.now place in
    record {
      told = rw c.lesser_sum-least.ensures (near-step c.args.left.now c.args.prefix c.args.right.now places i place c.loop-i.least _ c.near_of-near.result (omega arith) c.index-places-i.is
          (c.near_of-near.ensures ∙ ap (least_by each) (take_rest places (i + 1))) c.loop-i.invariant.told);
      order = (order-rest places i place (omega arith) c.index-places-i.is c.loop-i.invariant.order).1;
    }

pub returns : goal.returns
returns c = near-end c.args.left.now c.args.prefix c.args.right.now c.args.places.now c.loop-i.i c.loop-i.least _ (omega arith) c.loop-i.invariant.told
