use Rattle.search_server.proofs.Telling.{writes_tell}
use Rattle.search_server.proofs.laws.writes_go_on_telling.Goals as goal

pub returns : goal.returns
returns c = writes_tell
