use Rattle.std.proofs.Common.{◌≡◌, take}
use Rattle.std.specs.List.{flat_map}
use Rattle.index_settings.specs.Rules.{rule_of}
use Rattle.search_settings.specs.Rules.{entries_named}
use Rattle.search_settings.proofs.rules.rules_of.Given as goal

-- the entries of the texts so far
abbrev pub invariant-loop-text : goal.invariant-loop-text
invariant-loop-text l = l.rules.items ≡ flat_map (λ text. entries_named l.paths l.sort (rule_of text)) (take l.text-index l.text-items)
