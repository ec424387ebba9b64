use Rattle.std.proofs.Common.{subst, sym}
use Rattle.sort_rule.specs.Rows.{AreRows}
use Rattle.tests_rules.specs.Priced.{priced_keys, priced_key}
use Rattle.tests_rules.proofs.PricedLemmas.{priced-rows}
use Rattle.tests_rules.proofs.numbers.buckets.Goals as goal

pub new-requires : goal.new-requires
new-requires c =
    let numbers = c.loop-number.rows.items in
    subst (AreRows (priced_keys c.args.up numbers) (priced_key c.args.up numbers)) (sym c.missing.ensures) (priced-rows c.args.up numbers)
