use Rattle.std.proofs.Common.{◌++◌, ap, sym, ◌∙◌, ◌||◌}
use Rattle.std.specs.Option.{is_some}
use Rattle.path_registry.specs.Paths.{has_path}
use Rattle.path_registry.proofs.PathLemmas.{has-append, place-has}
use Rattle.path_registry.proofs.walked.is_noted.Goals as goal

pub returns-then-is_known : goal.returns-then-is_known
returns-then-is_known c =
    let known = c.args.registry.now.paths ++ c.args.added.now.paths in
    c.if-is_known.true ∙ sym (has-append c.args.path.now known c.args.fresh.now.paths ∙ ap (λ b. b || has_path c.args.path.now c.args.fresh.now.paths) (sym c.is_known.ensures ∙ c.if-is_known.true))

pub returns-else-is_known : goal.returns-else-is_known
returns-else-is_known c =
    let known = c.args.registry.now.paths ++ c.args.added.now.paths in
    c.is_some.ensures ∙ ap is_some c.find.ensures ∙ place-has c.args.path.now c.args.fresh.now.paths
    ∙ sym (has-append c.args.path.now known c.args.fresh.now.paths ∙ ap (λ b. b || has_path c.args.path.now c.args.fresh.now.paths) (sym c.is_known.ensures ∙ c.if-is_known.false))
