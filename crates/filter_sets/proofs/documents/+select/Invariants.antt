use Rattle.std.proofs.Common.{map}
use Rattle.filter_tree.specs.Tree.{trees_of}
use Rattle.filter_tree.specs.View.{view}
use Rattle.filter_sets.proofs.SelectLemmas.{trees_from, Narrows, Adds}
use Rattle.filter_sets.proofs.documents.+select.Given as goal

abbrev pub invariant-select_each-loop-member : goal.invariant-select_each-loop-member
invariant-select_each-loop-member l = Narrows l.facets l.paths (trees_from l.member-index l.members) l.conditions.items l.docs.ids (trees_of (map view l.members)) l.all.ids

abbrev pub invariant-select_any-loop-member : goal.invariant-select_any-loop-member
invariant-select_any-loop-member l = Adds l.facets l.paths (trees_from l.member-index l.members) l.conditions.items l.found (trees_of (map view l.members)) l.all.ids
