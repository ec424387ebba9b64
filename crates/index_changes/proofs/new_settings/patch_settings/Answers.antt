use Rattle.std.proofs.Common.{◌≡◌, sym, subst, true}
use Rattle.serde_json.specs.View.{view as data_of}
use Rattle.search_settings.specs.Uses.{use_alike}
use Rattle.index_changes.proofs.Settling.{alike-patched}
use Rattle.index_changes.proofs.new_settings.patch_settings.Goals as goal

pub settle-requires-clause-same : goal.settle-requires-clause-same
settle-requires-clause-same g c = λ unnamed.
    let paths = c.args.store.now.content.paths in
    subst (λ s. use_alike s c.args.settings.now paths ≡ true) (sym c.in_ok-others.ensures)
    (alike-patched c.args.settings.now (data_of c.args.members.now) (c.names_uses-may_differ.ensures unnamed) paths)
