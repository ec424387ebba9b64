use Rattle.request_routes.proofs.Rows.{one_route}
use Rattle.request_routes.proofs.laws.one_route_at_most.Goals as goal

pub returns : goal.returns
returns c = one_route
