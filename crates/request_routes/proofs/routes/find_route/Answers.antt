use Rattle.std.proofs.Common.{◌≡◌, ℕ, List, [], map, get_or, Bor, Ok, Err, sym, ap, ◌∙◌, subst}
use Rattle.request_routes.specs.Held.{given_by}
use Rattle.request_routes.specs.Patterns.{joined, marked_parts}
use Rattle.request_routes.specs.Routes.{parts_of, route_of}
use Rattle.request_routes.proofs.Patterns.{found_at, none_at}
use Rattle.request_routes.proofs.routes.find_route.Goals as goal

-- the parts behind a reference are those of the path
held : (now items : List (Bor (List ℕ))) (parts : List (List ℕ)) → now ≡ items → map (λ part. part.now) items ≡ parts → map (λ part. part.now) now ≡ parts
held now items parts same is = ap (map (λ part. part.now)) same ∙ is

-- the pattern that is looked up
looked_up : (text pattern : List ℕ) (held parts : List (List ℕ)) → text ≡ pattern → pattern ≡ joined (marked_parts held) → held ≡ parts → text ≡ joined (marked_parts parts)
looked_up text pattern held parts same is all = same ∙ is ∙ ap (λ v. joined (marked_parts v)) all

-- a part of the path
named : (part : List ℕ) (place : ℕ) (held parts : List (List ℕ)) → part ≡ get_or held place [] → held ≡ parts → part ≡ get_or parts place []
named part place held parts is all = is ∙ ap (λ v. get_or v place []) all

pub returns-in_default : goal.returns-in_default
returns-in_default c =
    let all = held _ _ (parts_of c.args.path.now) c.deref.ensures.value c.in_ok-parts.ensures in
    let text = looked_up _ _ _ _ c.deref-2.ensures c.in_ok-pattern.ensures all in
    none_at c.args.method.now c.args.path.now c.deref-2.result.now text (λ path is. c.in_default.not-Some path (c.path_with.ensures ∙ is))

pub route_at-requires : goal.route_at-requires
route_at-requires c =
    let all = held _ _ (parts_of c.args.path.now) c.deref.ensures.value c.in_ok-parts.ensures in
    let text = looked_up _ _ _ _ c.deref-2.ensures c.in_ok-pattern.ensures all in
    let uid = named _ 2 _ _ c.part_at.ensures (held _ _ (parts_of c.args.path.now) c.deref-3.ensures.value c.in_ok-parts.ensures) in
    let id = named _ 4 _ _ c.part_at-2.ensures (held _ _ (parts_of c.args.path.now) c.deref-4.ensures.value c.in_ok-parts.ensures) in
    (found_at c.args.path.now c.deref-2.result.now c.in-Some.path c.part_at.result.now c.part_at-2.result.now text (sym c.path_with.ensures ∙ c.in-Some.is) uid id).1

pub returns-in-Ok : goal.returns-in-Ok
returns-in-Ok c =
    let all = held _ _ (parts_of c.args.path.now) c.deref.ensures.value c.in_ok-parts.ensures in
    let text = looked_up _ _ _ _ c.deref-2.ensures c.in_ok-pattern.ensures all in
    let uid = named _ 2 _ _ c.part_at.ensures (held _ _ (parts_of c.args.path.now) c.deref-3.ensures.value c.in_ok-parts.ensures) in
    let id = named _ 4 _ _ c.part_at-2.ensures (held _ _ (parts_of c.args.path.now) c.deref-4.ensures.value c.in_ok-parts.ensures) in
    let found = found_at c.args.path.now c.deref-2.result.now c.in-Some.path c.part_at.result.now c.part_at-2.result.now text (sym c.path_with.ensures ∙ c.in-Some.is) uid id in
    subst (λ v. route_of c.args.method.now v ≡ Ok (given_by c.in-Ok.found)) (sym found.0) c.in-Ok.ensures

pub returns : goal.returns
returns c =
    let all = held _ _ (parts_of c.args.path.now) c.deref.ensures.value c.in_ok-parts.ensures in
    let text = looked_up _ _ _ _ c.deref-2.ensures c.in_ok-pattern.ensures all in
    let uid = named _ 2 _ _ c.part_at.ensures (held _ _ (parts_of c.args.path.now) c.deref-3.ensures.value c.in_ok-parts.ensures) in
    let id = named _ 4 _ _ c.part_at-2.ensures (held _ _ (parts_of c.args.path.now) c.deref-4.ensures.value c.in_ok-parts.ensures) in
    let found = found_at c.args.path.now c.deref-2.result.now c.in-Some.path c.part_at.result.now c.part_at-2.result.now text (sym c.path_with.ensures ∙ c.in-Some.is) uid id in
    subst (λ v. route_of c.args.method.now v ≡ Err c.in-Err.refusal) (sym found.0) c.in-Err.ensures
