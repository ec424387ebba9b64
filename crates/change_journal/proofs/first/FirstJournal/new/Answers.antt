use Rattle.std.proofs.Common.{rules, ◌<◌, ◌^◌, [], refl, ap, arith}
use Rattle.change_journal.specs.First.{gate_or}
use Rattle.change_journal.proofs.Firsts.{stands_for}
use Rattle.change_journal.proofs.first.FirstJournal.new.Goals as goal

pub invariant_of-result : goal.invariant_of-result
invariant_of-result c =
    let small : c.args.number < 2 ^ 64 = search rules in
    (stands_for c.args.number [] c.new.result.items 0 (ap gate_or c.new.ensures.items) tt refl (omega (arith, small))).1

pub returns : goal.returns
returns c =
    let small : c.args.number < 2 ^ 64 = search rules in
    (stands_for c.args.number [] c.new.result.items 0 (ap gate_or c.new.ensures.items) tt refl (omega (arith, small))).0
