use Rattle.posting_list.specs.Sets.{AreSetsOf}
use Rattle.posting_list.proofs.documents.add_paths.Given as goal

abbrev pub invariant-loop-path : goal.invariant-loop-path
invariant-loop-path l = AreSetsOf l.sets.items l.list.entries
