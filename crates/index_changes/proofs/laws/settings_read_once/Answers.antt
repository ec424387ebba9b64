use Rattle.index_changes.proofs.LawLemmas.{settings_read_once}
use Rattle.index_changes.proofs.laws.settings_read_once.Goals as goal

pub returns : goal.returns
returns c = settings_read_once
