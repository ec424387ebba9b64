use Rattle.std.proofs.Common.{◌≡◌, drop, length}
use Rattle.search_base.specs.Heads.{head_from}
use Rattle.path_registry.proofs.ShortLemmas.{number_behind}
use Rattle.path_registry.proofs.short_names.number_of.Given as goal

abbrev pub invariant-loop-byte : goal.invariant-loop-byte
invariant-loop-byte l = number_behind l.number (drop l.byte-index l.name) ≡ head_from (length l.name) l.name
