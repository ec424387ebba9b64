use Rattle.std.proofs.Common.{◌+◌, [], ◌∷◌, length, unwrap_or, ap, sym, subst, arith}
use Rattle.std.specs.Vec.Iter.{into_iter_items}
use Rattle.leaf_table.proofs.RowLemmas.{IsNumbering, one_numbered}
use Rattle.leaf_table.proofs.leaf_rows.numbered.Goals as goal

pub number-requires : goal.number-requires
number-requires c =
    let steps = ap length c.in-Some.ensures.steps.0 in
    let count = c.loop-leaf.invariant.2.count in
    omega (arith, steps, count, c.loop-leaf.invariant.4, c.requires.room, ap length c.into_iter-leaf-iterator.ensures.into_iter_gives.0)

pub overflow_add-at : goal.overflow_add-at
overflow_add-at c =
    let steps = ap length c.in-Some.ensures.steps.0 in
    let count = c.loop-leaf.invariant.2.count in
    let all = ap length c.into_iter-leaf-iterator.ensures.into_iter_gives.0 in
    omega (arith, steps, count, all, c.args.leaves.small, c.args.leaves.ok.0, c.args.leaves.ok.1)

pub loop-leaf-preserved : goal.loop-leaf-preserved
loop-leaf-preserved c =
    let rest = into_iter_items c.next.new.self in
    let all = into_iter_items c.into_iter-leaf-iterator.result in
    let start = c.args.pool.now.leaves.items in
    let now = c.loop-leaf.pool.leaves.items in
    let new = c.number.new.self.leaves.items in
    let numbers = unwrap_or c.loop-leaf.row [] in
    let is : IsNumbering start now numbers c.loop-leaf.at all (c.in-Some.leaf ∷ rest)
    = subst (IsNumbering start now numbers c.loop-leaf.at all) c.in-Some.ensures.steps.0 c.loop-leaf.invariant.2 in
    let numbered = one_numbered start now new numbers c.loop-leaf.at c.number.result all rest c.in-Some.leaf is c.number.ensures.others c.number.ensures.here in
    let room = c.loop-leaf.invariant.4 in
    let more = c.number.ensures.room in (
      tt,
      tt,
      subst (λ ns. IsNumbering start new ns (c.loop-leaf.at + 1) all rest) (sym c.set.ensures.numbers) numbered,
      c.set.ensures.some c.loop-leaf.invariant.3,
      omega arith,
    )

pub returns-clause-room : goal.returns-clause-room
returns-clause-room c =
    let count = c.loop-leaf.invariant.2.count in
    let all = ap length c.into_iter-leaf-iterator.ensures.into_iter_gives.0 in
    omega (arith, count, all, c.loop-leaf.invariant.4)
