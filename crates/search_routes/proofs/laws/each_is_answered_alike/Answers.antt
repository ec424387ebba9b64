use Rattle.search_routes.proofs.AlikeLemmas.{answered_alike}
use Rattle.search_routes.proofs.laws.each_is_answered_alike.Goals as goal

pub returns : goal.returns
returns c = answered_alike
