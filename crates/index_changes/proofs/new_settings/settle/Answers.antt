use Rattle.std.proofs.Common.{sym, ap, ◌∙◌, arith, length}
use Rattle.search_settings.specs.Uses.{use_alike}
use Rattle.index_changes.proofs.Indexing.{alike-indexed}
use Rattle.index_changes.proofs.new_settings.settle.Goals as goal

pub stay_alike-requires-clause-few : goal.stay_alike-requires-clause-few
stay_alike-requires-clause-few g c =
    let most = c.requires.indexed.sound.paths_within in
    omega (arith, ap length c.paths.ensures)

pub stay_alike-requires-clause-same : goal.stay_alike-requires-clause-same
stay_alike-requires-clause-same g c = λ differ. ap (use_alike c.args.others c.args.settings.now) c.paths.ensures ∙ c.requires.same differ

pub returns-then-stay_alike-clause-indexed : goal.returns-then-stay_alike-clause-indexed
returns-then-stay_alike-clause-indexed g c =
    alike-indexed c.args.others c.args.settings.now c.args.store.now.content c.args.kept.now
    (ap (use_alike c.args.others c.args.settings.now) (sym c.paths.ensures) ∙ sym c.stay_alike.ensures ∙ c.if-stay_alike.true) c.requires.indexed
