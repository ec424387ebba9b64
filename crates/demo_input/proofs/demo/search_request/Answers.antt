use Rattle.std.proofs.Common.{ap, ◌∙◌, Some, codes}
use Rattle.demo_input.specs.Steps.{search_step, request_to}
use Rattle.demo_input.proofs.demo.search_request.Goals as goal

pub returns : goal.returns
unfolding search_step
returns c =
    ap (λ q. record { search = Some c.args.number; request = q })
    (c.in_ok-wire.ensures ∙ ap (λ body. request_to (codes "POST") (codes "/indexes/demo/search") body) c.in_ok-body.ensures.ok)
