use Rattle.std.proofs.Common.{length, ap, sym, arith}
use Rattle.doc_sets.proofs.PlaceLemmas.{put-present, length-put}
use Rattle.doc_sets.proofs.in_place.put_one.Goals as goal

pub returns-then-contains-clause-ids : goal.returns-then-contains-clause-ids
returns-then-contains-clause-ids c =
    sym (put-present c.args.id c.args.bits.now.ids c.limit-limit.ensures.increasing (sym c.if-contains.ensures))

pub returns-clause-count : goal.returns-clause-count
returns-clause-count c =
    let more = length-put c.args.id c.args.bits.now.ids (sym c.if-contains.ensures) in
    omega (arith, more, ap length c.set.ensures.ids)
