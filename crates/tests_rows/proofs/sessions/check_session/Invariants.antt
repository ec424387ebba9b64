use Rattle.doc_index.specs.Documents.{documents_of}
use Rattle.row_index.specs.Standing.{StandsFor}
use Rattle.tests_rows.specs.declared.stored.TheConstants.{USES}
use Rattle.tests_rows.proofs.sessions.check_session.Given as goal

abbrev pub invariant-loop-change : goal.invariant-loop-change
invariant-loop-change g l = StandsFor l.index (documents_of l.store.content.paths USES l.store.content.rows)
