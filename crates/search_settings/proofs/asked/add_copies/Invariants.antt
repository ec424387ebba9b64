use Rattle.std.proofs.Common.{◌≡◌, ◌++◌, take}
use Rattle.search_settings.proofs.asked.add_copies.Given as goal

-- the names so far
abbrev pub invariant-loop-name : goal.invariant-loop-name
invariant-loop-name l = l.all.items ≡ l.initial.all.items ++ take l.name-index l.names
