use Rattle.std.proofs.Common.{◌≡◌, drop}
use Rattle.posting_sets.specs.Numbers.{set_at}
use Rattle.doc_search.proofs.parts.set_at.Given as goal

abbrev pub invariant-loop-row : goal.invariant-loop-row
invariant-loop-row l = set_at l.number (drop l.row-index l.rows) ≡ set_at l.number l.rows
