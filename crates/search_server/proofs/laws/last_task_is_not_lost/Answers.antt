use Rattle.search_server.proofs.Tasks.{last_not_lost}
use Rattle.search_server.proofs.laws.last_task_is_not_lost.Goals as goal

pub returns : goal.returns
returns c = last_not_lost
