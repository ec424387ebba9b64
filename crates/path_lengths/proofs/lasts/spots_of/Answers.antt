use Rattle.std.proofs.Common.{arith}
use Rattle.path_lengths.proofs.StepLemmas.{spot_more, narrow_more}
use Rattle.path_lengths.proofs.lasts.spots_of.Goals as goal

pub loop-place-preserved : goal.loop-place-preserved
loop-place-preserved c = record {
  same = λ spot.
      spot_more c.args.places.now c.loop-place.place-index c.place-item.result c.loop-place.spots.items c.push.new.self.items c.spot_of.result spot (omega arith)
      c.place-item.is c.spot_of.ensures.spot c.in_ok-push.ensures.items (c.loop-place.invariant.same spot);
  narrow = narrow_more c.args.places.now c.loop-place.place-index c.place-item.result (omega arith) c.place-item.is c.spot_of.ensures.path c.spot_of.ensures.position
      c.loop-place.invariant.narrow;
}
