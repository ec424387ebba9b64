-- The primary key that a query string names is not empty.
use Rattle.std.proofs.Common.{◌≡◌, ℕ, zero, suc, ◌<◌, Bool, ◌||◌, true, false, cond, List, [], ◌∷◌, length, codes, Some, None, refl, sym, subst, arith}
use Rattle.std.specs.Prelude.{nat_lt, IfSome}
use Rattle.std.specs.Map.{lookup}
use Rattle.std.specs.Str.{bytes_eq}
use Rattle.std.proofs.lemmas.Bool.{true≢false}
use Rattle.request_refusals.specs.declared.refusal.Refusal.TheVariants.{Unknown}
use Rattle.request_routes.specs.declared.routes.Route.{Route}
use Rattle.request_routes.specs.declared.routes.Route.TheVariants.{AddDocuments}
use Rattle.request_routes.specs.declared.query.Shape.TheVariants.{Text}
use Rattle.request_routes.specs.Query.{Pair, names, is_shaped, takes_each, takes, first_unknown, value_of}

abbrev IsKey : List Pair → Type 0
IsKey pairs = IfSome (value_of (codes "primaryKey") pairs) (λ key. 0 < length key)

some : (n : ℕ) → nat_lt 0 n ≡ true → 0 < n
some zero h = absurd (true≢false (sym h))
some (suc n) h = omega arith

pub given_key : (route : Route) → takes_each route ≡ false → names route ≡ names AddDocuments → (pairs : List Pair) → first_unknown route pairs ≡ None
    → IfSome (value_of (codes "primaryKey") pairs) (λ key. 0 < length key)
given_key route tried are [] h = tt
given_key route tried are (pair ∷ pairs) h = go (takes route pair) refl h (given_key route tried are pairs)
  where
    here : (w : Bool) → is_shaped pair.1 (cond w (Some Text) None) ≡ true → IsKey pairs → IfSome (cond w (Some pair.1) (value_of (codes "primaryKey") pairs)) (λ key. 0 < length key)
    here true taken later = some (length pair.1) taken
    here false taken later = later

    go : (w : Bool) → takes route pair ≡ w → cond w (first_unknown route pairs) (Some (Unknown pair.0)) ≡ None → (first_unknown route pairs ≡ None → IsKey pairs)
        → IsKey (pair ∷ pairs)
    go true is h later =
        here (bytes_eq pair.0 (codes "primaryKey"))
        (subst (λ v. is_shaped pair.1 (lookup (bytes_eq pair.0) v) ≡ true) are (subst (λ v. (v || is_shaped pair.1 (lookup (bytes_eq pair.0) (names route))) ≡ true) tried is)) (later h)
    go false is h later = cc
