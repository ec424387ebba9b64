use Rattle.std.proofs.Common.{◌++◌, ◌∙◌, ap, arith}
use Rattle.std.specs.Vec.Iter.{into_iter_items}
use Rattle.path_registry.specs.Paths.{registered}
use Rattle.path_registry.proofs.PathLemmas.{within-path}
use Rattle.path_registry.proofs.walked.note_walk.Goals as goal

pub returns-then-branch-clause-spent : goal.returns-then-branch-clause-spent
returns-then-branch-clause-spent c = λ _.
    let known = c.args.registry.now.paths ++ c.args.added.now.paths in
    let within = within-path c.in-Some.path (into_iter_items c.loop-path.path-iterator) (into_iter_items c.next.new.self) c.args.walk.items (known ++ c.loop-path.fresh.paths) (known ++ c.args.fresh.now.paths)
    c.in-Some.ensures.steps.0 (c.loop-path.invariant.3 ∙ ap (λ v. registered v (known ++ c.args.fresh.now.paths)) c.into_iter-path-iterator.ensures.into_iter_gives.0) in
    omega (arith, c.in_ok-note_path.ensures.spent c.if-branch.true, within)
