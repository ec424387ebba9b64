use Rattle.std.proofs.Common.{◌≡◌, subst}
use Rattle.std.specs.Prelude.{IfOk}
use Rattle.serde_json.specs.View.{view as data_of}
use Rattle.index_settings.specs.Patch.{patched as patched_view}
use Rattle.index_settings.proofs.patching.patch_checked.Goals as goal

pub returns : goal.returns
returns c = subst (λ d. IfOk c.patched.result (λ settings. settings ≡ patched_view d c.args.old.now (data_of c.args.members.now))) c.in_ok-default.ensures c.patched.ensures
