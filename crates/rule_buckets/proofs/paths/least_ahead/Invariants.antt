use Rattle.std.proofs.Common.{◌≡◌, take}
use Rattle.search_base.specs.Least.{least_by}
use Rattle.rule_buckets.specs.Streams.{next_cost}
use Rattle.rule_buckets.proofs.paths.least_ahead.Given as goal

-- the least cost of the streams so far
abbrev pub invariant-loop-stream : goal.invariant-loop-stream
invariant-loop-stream g l = l.least ≡ least_by next_cost (take l.stream-index l.streams)
