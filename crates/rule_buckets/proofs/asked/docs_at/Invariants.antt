use Rattle.std.proofs.Common.{◌≡◌, drop}
use Rattle.path_costs.specs.Sets.{set_at}
use Rattle.rule_buckets.proofs.asked.docs_at.Given as goal

abbrev pub invariant-loop-row : goal.invariant-loop-row
invariant-loop-row l = set_at l.number (drop l.row-index l.rows) ≡ set_at l.number l.rows
