use Rattle.std.proofs.Common.{length, set, ap, arith, ◌∙◌}
use Rattle.std.proofs.lemmas.List.{length-take}
use Rattle.leaf_table.proofs.RowLemmas.{taken_set}
use Rattle.leaf_table.proofs.few_numbers.FewNumbers.set.Goals as goal

pub returns-then-at-from : goal.returns-then-at-from
returns-then-at-from c =
    taken_set c.self.inside.len c.self.inside.numbers c.args.at c.args.number
    ∙ ap (λ numbers. set numbers c.args.at c.args.number) c.self.view_is

pub returns-else-at-from : goal.returns-else-at-from
returns-else-at-from c =
    let taken = length-take c.self.inside.len c.self.inside.numbers in
    let seen = ap length c.self.view_is in
    absurd (omega (arith, taken, seen, c.requires, c.if-at-from.false, c.from.ensures))
