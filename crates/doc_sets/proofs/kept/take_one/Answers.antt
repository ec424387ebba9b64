use Rattle.std.proofs.Common.{length, ap, sym, arith}
use Rattle.doc_sets.proofs.PlaceLemmas.{out-absent, length-out}
use Rattle.doc_sets.proofs.kept.take_one.Goals as goal

pub returns-then-not-contains-clause-ids : goal.returns-then-not-contains-clause-ids
returns-then-not-contains-clause-ids c = sym (out-absent c.args.bits.now.ids c.args.id (sym c.if-not-contains.ensures))

pub returns-clause-count : goal.returns-clause-count
returns-clause-count c =
    let fewer = length-out c.args.id c.args.bits.now.ids (sym c.if-not-contains.ensures) in
    omega (arith, fewer, ap length c.unset.ensures.ids)
