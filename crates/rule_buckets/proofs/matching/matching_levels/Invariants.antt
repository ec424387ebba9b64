use Rattle.rule_buckets.proofs.Levels.{AreFirst}
use Rattle.rule_buckets.proofs.matching.matching_levels.Given as goal

-- the documents of the levels so far, and those that none of them matches
abbrev pub invariant-loop-level : goal.invariant-loop-level
invariant-loop-level g l =
    AreFirst (g.S.RuleSource.rows l.source) l.graph.levels l.universe.ids l.level l.levels.items l.rest.ids
