use Rattle.std.proofs.Common.{◌≡◌, ◌++◌, take, map}
use Rattle.search_settings.specs.Rules.{criterion_entry}
use Rattle.search_settings.proofs.rules.add_criteria.Given as goal

-- the entries of the criteria so far
abbrev pub invariant-loop-criterion : goal.invariant-loop-criterion
invariant-loop-criterion l = l.rules.items ≡ l.initial.rules.items ++ map (criterion_entry l.paths) (take l.criterion-index l.sort)
