use Rattle.std.proofs.Common.{◌≡◌, ap, sym, ◌∙◌, ◌||◌, true, false}
use Rattle.std.specs.Option.{is_some}
use Rattle.path_registry.specs.Paths.{last_place}
use Rattle.path_registry.proofs.PathLemmas.{has-places}
use Rattle.path_registry.proofs.walked.is_known.Goals as goal

pub returns-then-is_some : goal.returns-then-is_some
returns-then-is_some c =
    let found : is_some (last_place c.args.path.now c.args.registry.now.paths) ≡ true = ap is_some (sym c.find.ensures) ∙ sym c.is_some.ensures ∙ c.if-is_some.true in
    c.if-is_some.true ∙ sym (has-places c.args.path.now c.args.registry.now.paths c.args.added.now.paths ∙ ap (λ b. b || is_some (last_place c.args.path.now c.args.added.now.paths)) found)

pub returns-else-is_some : goal.returns-else-is_some
returns-else-is_some c =
    let not_found : is_some (last_place c.args.path.now c.args.registry.now.paths) ≡ false = ap is_some (sym c.find.ensures) ∙ sym c.is_some.ensures ∙ c.if-is_some.false in
    c.is_some-else-is_some.ensures ∙ ap is_some c.find-else-is_some.ensures
    ∙ sym (has-places c.args.path.now c.args.registry.now.paths c.args.added.now.paths ∙ ap (λ b. b || is_some (last_place c.args.path.now c.args.added.now.paths)) not_found)
