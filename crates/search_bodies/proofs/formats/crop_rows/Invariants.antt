use Rattle.std.proofs.Common.{◌≡◌, ◌++◌, drop, map}
use Rattle.search_bodies.specs.Formats.{crop_row}
use Rattle.search_bodies.proofs.formats.crop_rows.Given as goal

-- the rows so far, and those of the entries that are left, are all
abbrev pub invariant-loop-entry : goal.invariant-loop-entry
invariant-loop-entry l = l.rows.items ++ map (crop_row l.default) (drop l.entry-index l.entries) ≡ map (crop_row l.default) l.entries
