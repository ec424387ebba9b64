use Rattle.std.proofs.Common.{◌≡◌, ◌+◌, ◌++◌, drop, length}
use Rattle.search_settings.specs.Uses.{uses_from}
use Rattle.search_settings.proofs.uses.uses_behind.Given as goal

-- the uses so far and those of the paths to come are those of all paths
abbrev pub invariant-loop-place : goal.invariant-loop-place
invariant-loop-place l =
    l.uses.items ++ uses_from l.settings (length l.fn.known + l.place) (drop l.place l.fn.added) ≡ l.fn.known ++ uses_from l.settings (length l.fn.known) l.fn.added
