use Rattle.std.proofs.Common.{◌≡◌}
use Rattle.std.specs.Prelude.{None}
use Rattle.bucket_sort.specs.Tables.{number_at, least_from}
use Rattle.tests_sets.proofs.buckets.least_key.Given as goal

abbrev pub invariant-loop-id : goal.invariant-loop-id
invariant-loop-id l = least_from (number_at l.rows l.level) l.least l.id-iterator ≡ least_from (number_at l.rows l.level) None l.docs.ids
