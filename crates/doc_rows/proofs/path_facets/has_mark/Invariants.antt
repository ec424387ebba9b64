use Rattle.std.proofs.Common.{◌≡◌, drop}
use Rattle.doc_rows.specs.Facets.{has_mark}
use Rattle.doc_rows.proofs.path_facets.has_mark.Given as goal

-- the mark is among the values to come, if it is among all
abbrev pub invariant-loop-value : goal.invariant-loop-value
invariant-loop-value l = has_mark l.kind (drop l.value-index l.values) ≡ has_mark l.kind l.values
