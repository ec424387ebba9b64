use Rattle.std.proofs.Common.{◌≡◌, drop}
use Rattle.doc_values.specs.Walk.{walk}
use Rattle.doc_rows.specs.Rows.{and_rows, rows_from, rows_of}
use Rattle.doc_rows.proofs.row_list.rows.Given as goal

-- the rows so far and those of the paths to come are the document's
abbrev pub invariant-loop-number : goal.invariant-loop-number
invariant-loop-number l =
    and_rows l.rows (rows_from l.number (walk l.fn.document) (drop l.number l.fn.paths) (drop l.number l.fn.uses)) ≡ rows_of l.fn.document l.fn.paths l.fn.uses
