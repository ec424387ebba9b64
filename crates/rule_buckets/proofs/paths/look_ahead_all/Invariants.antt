use Rattle.std.proofs.Common.{◌≡◌, ℕ, ◌||◌}
use Rattle.std.specs.List.{AllByRecursion}
use Rattle.rule_buckets.specs.Streams.{IsStream, IsReady, is_in_any}
use Rattle.rule_buckets.proofs.paths.look_ahead_all.Given as goal

-- the streams that are ready so far, and those that are left
abbrev pub invariant-loop-stream : goal.invariant-loop-stream
invariant-loop-stream g l =
    AllByRecursion (IsReady (g.S.RuleSource.rows) l.query) l.ready.items
    × AllByRecursion (IsStream (g.S.RuleSource.rows) l.query) l.stream-iterator.rest.items
    × ((d : ℕ) → (is_in_any l.ready.items d || is_in_any l.stream-iterator.rest.items d) ≡ is_in_any l.initial.stream-iterator.rest.items d)
