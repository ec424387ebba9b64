-- The steps from a request to its call, of which each may be refused.
use Rattle.std.proofs.Common.{◌≡◌, ℕ, List, Option, None, Result, Ok, Err, sym, ap, subst, ◌∙◌}
use Rattle.http_wire.specs.Stream.{Request}
use Rattle.request_refusals.specs.declared.refusal.Refusal.{Refusal}
use Rattle.search_base.specs.declared.fault.Fault.{Fault}
use Rattle.search_base.specs.declared.fault.Fault.TheVariants.{Refused, NoMemory}
use Rattle.search_base.specs.Gives.{Fails, Checks}
use Rattle.search_base.specs.Trying.{◌>>=◌, ◌>>◌}
use Rattle.request_routes.specs.Query.{Pair, query_for}
use Rattle.request_routes.specs.Routes.{Found, path_of, query_of, parts_of, route_of, named_fault}
use Rattle.request_calls.specs.Asked.{CallData}
use Rattle.request_calls.specs.Calls.{call_at, call_of}

fails_bind : {A B : Type 0} (f : Fault Refusal) (r : Result A Refusal) (g : A → Result B Refusal) → Fails f r → Fails f (r >>= g)
fails_bind NoMemory r g is = tt
fails_bind (Refused e) r g is = ap (λ v. v >>= g) is

bind_ok : {A B : Type 0} (r : Result A Refusal) (x : A) (g : A → Result B Refusal) → r ≡ Ok x → (r >>= g) ≡ g x
bind_ok r x g is = ap (λ v. v >>= g) is

check_fails : {A : Type 0} (f : Fault Refusal) (o : Option Refusal) (r : Result A Refusal) → Checks (Err f) o → Fails f (o >> r)
check_fails NoMemory o r is = tt
check_fails (Refused e) o r is = ap (λ v. v >> r) is

later_fails : {A : Type 0} (f : Fault Refusal) (o : Option Refusal) (r : Result A Refusal) → o ≡ None → Fails f r → Fails f (o >> r)
later_fails f o r none fails = subst (λ v. Fails f (v >> r)) (sym none) fails

-- what a request asks for, once its route is found
abbrev asked_at : Request → Found → Result CallData Refusal
asked_at q found = (named_fault found.route found.uid >> query_for found.route (query_of q.target)) >>= λ query. call_at found.route found.uid found.id query q.body

pub route_fails : (q : Request) (f : Fault Refusal) (method path : List ℕ) → method ≡ q.method → path ≡ path_of q.target
    → Fails f (route_of method (parts_of path)) → Fails f (call_of q)
route_fails q f method path m p fails =
    fails_bind f (route_of q.method (parts_of (path_of q.target))) (asked_at q)
    (subst (λ v. Fails f (route_of v (parts_of (path_of q.target)))) m (subst (λ v. Fails f (route_of method (parts_of v))) p fails))

-- the route is found
at_route : (q : Request) (method path : List ℕ) (found : Found) → method ≡ q.method → path ≡ path_of q.target
    → route_of method (parts_of path) ≡ Ok found → call_of q ≡ asked_at q found
at_route q method path found m p is =
    bind_ok (route_of q.method (parts_of (path_of q.target))) found (asked_at q)
    (subst (λ v. route_of v (parts_of (path_of q.target)) ≡ Ok found) m (subst (λ v. route_of method (parts_of v) ≡ Ok found) p is))

found_fails : (q : Request) (f : Fault Refusal) (method path : List ℕ) (found : Found) → method ≡ q.method → path ≡ path_of q.target
    → route_of method (parts_of path) ≡ Ok found → Fails f (named_fault found.route found.uid >> query_for found.route (query_of q.target)) → Fails f (call_of q)
found_fails q f method path found m p is fails =
    subst (Fails f) (sym (at_route q method path found m p is)) (fails_bind f (named_fault found.route found.uid >> query_for found.route (query_of q.target)) _ fails)

pub uid_fails : (q : Request) (f : Fault Refusal) (method path : List ℕ) (found : Found) → method ≡ q.method → path ≡ path_of q.target
    → route_of method (parts_of path) ≡ Ok found → Checks (Err f) (named_fault found.route found.uid) → Fails f (call_of q)
uid_fails q f method path found m p is fault = found_fails q f method path found m p is (check_fails f (named_fault found.route found.uid) _ fault)

pub query_fails : (q : Request) (f : Fault Refusal) (method path query : List ℕ) (found : Found) → method ≡ q.method → path ≡ path_of q.target
    → query ≡ query_of q.target → route_of method (parts_of path) ≡ Ok found → named_fault found.route found.uid ≡ None → Fails f (query_for found.route query) → Fails f (call_of q)
query_fails q f method path query found m p s is right fails =
    found_fails q f method path found m p is
    (later_fails f (named_fault found.route found.uid) (query_for found.route (query_of q.target)) right (subst (λ v. Fails f (query_for found.route v)) s fails))

-- nothing but the body is left
pub asked_whole : (q : Request) (method path query : List ℕ) (found : Found) (pairs : List Pair) → method ≡ q.method → path ≡ path_of q.target
    → query ≡ query_of q.target → route_of method (parts_of path) ≡ Ok found → named_fault found.route found.uid ≡ None → query_for found.route query ≡ Ok pairs
    → call_of q ≡ call_at found.route found.uid found.id pairs q.body
asked_whole q method path query found pairs m p s is right has =
    let whole : (named_fault found.route found.uid >> query_for found.route (query_of q.target)) ≡ Ok pairs =
    ap (λ o. o >> query_for found.route (query_of q.target)) right ∙ subst (λ v. query_for found.route v ≡ Ok pairs) s has in
    at_route q method path found m p is ∙ bind_ok (named_fault found.route found.uid >> query_for found.route (query_of q.target)) pairs _ whole
