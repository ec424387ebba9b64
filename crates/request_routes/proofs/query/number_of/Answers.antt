use Rattle.std.proofs.Common.{◌≡◌, true, subst}
use Rattle.std.specs.List.{list_all}
use Rattle.request_routes.specs.Query.{is_digit}
use Rattle.request_routes.proofs.Numbers.{read_none}
use Rattle.request_routes.proofs.query.number_of.Goals as goal

pub returns-in-Err : goal.returns-in-Err
returns-in-Err c = read_none c.args.text.now (subst (λ v. true ≡ list_all is_digit v) c.as_bytes.ensures.value c.if-not-are_digits.ensures) c.in-Err.ensures.value.0
