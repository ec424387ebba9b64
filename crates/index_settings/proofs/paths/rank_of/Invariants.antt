use Rattle.std.proofs.Common.{◌≡◌, drop}
use Rattle.index_settings.specs.Paths.{first_place}
use Rattle.index_settings.proofs.paths.rank_of.Given as goal

-- no entry so far covers the path
abbrev pub invariant-loop-place : goal.invariant-loop-place
invariant-loop-place l = first_place 0 l.path l.entries ≡ first_place l.place l.path (drop l.place l.entries)
