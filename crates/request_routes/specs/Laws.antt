-- What holds of the table of routes, whatever the request.
use Rattle.std.specs.Prelude.{◌≤◌, ◌&&◌, ℕ, List, Bool, filter, length}
use Rattle.std.specs.Str.{bytes_eq}
use Rattle.request_routes.specs.Routes.{Row, routes, agrees}

-- whether a row of the table has the method and the path
abbrev pub fits : List ℕ → List (List ℕ) → Row → Bool
fits method parts r = bytes_eq method r.method && agrees r.path parts

-- at most one route has a request's method and path
abbrev pub OneRouteAtMost : Type 0
OneRouteAtMost = (method : List ℕ) (parts : List (List ℕ)) → length (filter (fits method parts) routes) ≤ 1
