use Rattle.search_routes.proofs.LawLemmas.{step_not_503}
use Rattle.search_routes.proofs.laws.none_answers_503.Goals as goal

pub returns : goal.returns
returns c = step_not_503
