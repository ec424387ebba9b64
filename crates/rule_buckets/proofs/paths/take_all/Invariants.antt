use Rattle.rule_buckets.proofs.Streaming.{AreTaken}
use Rattle.rule_buckets.proofs.paths.take_all.Given as goal

-- what is taken so far and left, and the streams to come
abbrev pub invariant-loop-stream : goal.invariant-loop-stream
invariant-loop-stream g l =
    AreTaken (g.S.RuleSource.rows) l.query l.cost l.initial.stream-iterator.rest.items l.stream-iterator.rest.items l.left.items l.found.ids
