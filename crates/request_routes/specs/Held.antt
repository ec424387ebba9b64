-- What the code holds of a request's path and query string, as the definitions have it.
use Rattle.request_routes.specs.declared.routes.Found.{Found as HeldRoute}
use Rattle.request_routes.specs.declared.query.Pair.{Pair as HeldPair}
use Rattle.request_routes.specs.Routes.{Found}
use Rattle.request_routes.specs.Query.{Pair}

abbrev pub given_by : HeldRoute → Found
given_by found = record { route = found.route; uid = found.uid.now; id = found.id.now }

abbrev pub pair_of : HeldPair → Pair
pair_of pair = (pair.name, pair.value)
