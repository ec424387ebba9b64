use Rattle.std.proofs.Common.{◌≡◌, take}
use Rattle.doc_store.specs.Store.{externals}
use Rattle.tests_rows.proofs.sessions.externals_of.Given as goal

abbrev pub invariant-loop-row : goal.invariant-loop-row
invariant-loop-row g l = l.all.items ≡ externals (take l.row-index l.rows)
