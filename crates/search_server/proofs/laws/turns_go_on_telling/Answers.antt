use Rattle.search_server.proofs.Telling.{turn_tells}
use Rattle.search_server.proofs.laws.turns_go_on_telling.Goals as goal

pub returns : goal.returns
returns c = turn_tells
