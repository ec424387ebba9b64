use Rattle.std.proofs.Common.{◌≡◌, ◌++◌, map, filter}
use Rattle.search_base.specs.declared.document.DocId.{DocId}
use Rattle.bucket_sort.specs.Tables.{number_at, is_kept}
use Rattle.tests_sets.proofs.buckets.keyed.Given as goal

abbrev pub invariant-loop-id : goal.invariant-loop-id
invariant-loop-id l = map (λ (id : DocId). id.0) l.kept.items ++ filter (is_kept (number_at l.rows l.level) l.key l.has_it) l.id-iterator ≡ filter (is_kept (number_at l.rows l.level) l.key l.has_it) l.docs.ids
