use Rattle.search_routes.proofs.LawLemmas.{step_counted}
use Rattle.search_routes.proofs.laws.what_is_accepted_is_counted.Goals as goal

pub returns : goal.returns
returns c = step_counted
