use Rattle.search_server.proofs.Telling.{reads_tell}
use Rattle.search_server.proofs.laws.reads_go_on_telling.Goals as goal

pub returns : goal.returns
returns c = reads_tell
