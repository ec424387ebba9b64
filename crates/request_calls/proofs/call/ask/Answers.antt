use Rattle.std.proofs.Common.{◌≡◌, Err, map, ap, ◌∙◌, sym, subst, arith}
use Rattle.http_wire.specs.Wire.{request_of}
use Rattle.search_base.specs.Gives.{Gives}
use Rattle.request_routes.specs.Held.{pair_of, given_by}
use Rattle.request_routes.specs.Routes.{path_of, query_of}
use Rattle.request_calls.specs.Held.{call_data}
use Rattle.request_calls.proofs.Asking.{route_fails, uid_fails, query_fails, asked_whole}
use Rattle.request_calls.proofs.call.ask.Goals as goal

pub returns-in_err-found : goal.returns-in_err-found
returns-in_err-found c =
    let is : c.from_residual.result ≡ Err c.in_err-found.field-0.0 = grind arith in
    rw is
    (route_fails (request_of c.args.wire.now) c.in_err-found.field-0.0 c.as_str-2.result.now c.split_target.result.0.now
    c.as_str-2.ensures (c.split_target.ensures.path ∙ ap path_of c.as_str.ensures) c.in_err-found.ensures)

pub returns-in_err-check_named : goal.returns-in_err-check_named
returns-in_err-check_named c =
    let is : c.from_residual-in_err-check_named.result ≡ Err c.in_err-check_named.field-0.0 = grind arith in
    rw is
    (uid_fails (request_of c.args.wire.now) c.in_err-check_named.field-0.0 c.as_str-2.result.now c.split_target.result.0.now (given_by c.in_ok-found.found)
    c.as_str-2.ensures (c.split_target.ensures.path ∙ ap path_of c.as_str.ensures) c.in_ok-found.ensures c.in_err-check_named.ensures)

pub returns-in_err-pairs : goal.returns-in_err-pairs
returns-in_err-pairs c =
    let is : c.from_residual-in_err-pairs.result ≡ Err c.in_err-pairs.field-0.0 = grind arith in
    rw is
    (query_fails (request_of c.args.wire.now) c.in_err-pairs.field-0.0 c.as_str-2.result.now c.split_target.result.0.now c.split_target.result.1.now (given_by c.in_ok-found.found)
    c.as_str-2.ensures (c.split_target.ensures.path ∙ ap path_of c.as_str.ensures) (c.split_target.ensures.query ∙ ap query_of c.as_str.ensures)
    c.in_ok-found.ensures c.in_ok-check_named.ensures c.in_err-pairs.ensures)

pub returns : goal.returns
returns c =
    let whole = asked_whole (request_of c.args.wire.now) c.as_str-2.result.now c.split_target.result.0.now c.split_target.result.1.now (given_by c.in_ok-found.found)
    (map pair_of c.in_ok-pairs.pairs.items) c.as_str-2.ensures (c.split_target.ensures.path ∙ ap path_of c.as_str.ensures)
    (c.split_target.ensures.query ∙ ap query_of c.as_str.ensures) c.in_ok-found.ensures c.in_ok-check_named.ensures c.in_ok-pairs.ensures in
    subst (Gives call_data c.ask_at.result) (sym whole) (rw (c.deref.ensures.value, c.deref-2.ensures.value) at c.ask_at.ensures)
