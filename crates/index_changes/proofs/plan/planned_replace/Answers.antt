use Rattle.std.proofs.Common.{subst}
use Rattle.std.specs.Option.{option_copied}
use Rattle.index_changes.specs.Keyed.{AreKeyed}
use Rattle.index_changes.proofs.Keeping.{key-given, rows-keyed}
use Rattle.index_changes.proofs.plan.planned_replace.Goals as goal

pub invariant_of-result : goal.invariant_of-result
invariant_of-result c = record {
  good = tt;
  given = key-given (option_copied c.args.own) c.args.given c.in_ok-key.key c.args.documents c.requires.own c.requires.given c.in_ok-key.ensures;
  rows = subst (λ k. AreKeyed k c.in_ok-rows.rows.items) c.as_ref.ensures.value (rows-keyed (option_copied c.as_ref.result) c.into_texts.result.items c.in_ok-rows.rows.items c.in_ok-rows.ensures.rows);
}
