use Rattle.index_settings.proofs.Once.{done_once}
use Rattle.index_settings.proofs.laws.patch_is_done_once.Goals as goal

pub returns : goal.returns
returns c = done_once
