use Rattle.search_server.proofs.Tasks.{not_lost}
use Rattle.search_server.proofs.laws.no_task_is_lost.Goals as goal

pub returns : goal.returns
returns c = not_lost
