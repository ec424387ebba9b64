use Rattle.std.proofs.Common.{◌≡◌, ◌++◌, drop}
use Rattle.doc_rows.specs.Facets.{leaves_of_path}
use Rattle.doc_rows.proofs.path_facets.add_leaves.Given as goal

-- the leaves so far and those of the values to come are the path's
abbrev pub invariant-loop-value : goal.invariant-loop-value
invariant-loop-value l =
    l.leaves.items ++ leaves_of_path l.fn.number (drop l.value-index l.fn.values) ≡ l.initial.leaves.items ++ leaves_of_path l.fn.number l.fn.values
