use Rattle.std.proofs.Common.{◌≡◌, drop}
use Rattle.std.specs.Cmp.Lexicographic.{pointwise}
use Rattle.search_settings.specs.Uses.{same_use, use_alike, uses_from}
use Rattle.search_settings.proofs.uses.use_alike.Given as goal

-- the paths so far are used alike, so that those to come decide
abbrev pub invariant-loop-number : goal.invariant-loop-number
invariant-loop-number l = use_alike l.settings l.others l.fn.paths ≡ pointwise same_use (uses_from l.settings l.number (drop l.number l.fn.paths)) (uses_from l.others l.number (drop l.number l.fn.paths))
