use Rattle.search_server.proofs.Telling.{disks_tell}
use Rattle.search_server.proofs.laws.disks_go_on_telling.Goals as goal

pub returns : goal.returns
returns c = disks_tell
