use Rattle.search_routes.proofs.LawLemmas.{accepted_waits}
use Rattle.search_routes.proofs.laws.what_is_accepted_waits.Goals as goal

pub returns : goal.returns
returns c = accepted_waits
