use Rattle.std.proofs.Common.{ap, length, length-append, arith}
use Rattle.std.specs.Vec.Iter.{into_iter_items}
use Rattle.doc_store.proofs.admitting.add_noted.Goals as goal

pub add-requires : goal.add-requires
add-requires c =
    let start = c.into_iter-path-iterator.result in
    omega (
      arith,
      c.requires c.if-new.false,
      ap length c.loop-path.invariant.2,
      length-append c.loop-path.added.paths (into_iter_items c.loop-path.path-iterator),
      length-append c.args.added.now.paths (into_iter_items start),
      ap length c.into_iter-path-iterator.ensures.into_iter_gives.0,
      ap length c.into_paths-path-items.ensures,
    )
