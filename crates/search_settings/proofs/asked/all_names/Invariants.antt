use Rattle.std.proofs.Common.{◌≡◌, take}
use Rattle.std.specs.List.{flat_map}
use Rattle.search_settings.specs.Asked.{names_for}
use Rattle.search_settings.proofs.asked.all_names.Given as goal

-- the names that the names so far stand for
abbrev pub invariant-loop-name : goal.invariant-loop-name
invariant-loop-name l = l.all.items ≡ flat_map (names_for l.settings) (take l.name-index l.names)
