use Rattle.std.proofs.Common.{ap, ◌∙◌, None, codes}
use Rattle.demo_input.specs.Steps.{batch, request_to}
use Rattle.demo_input.proofs.demo.batch_request.Goals as goal

pub returns-clause-step : goal.returns-clause-step
unfolding batch
returns-clause-step c =
    ap (λ q. record { search = None; request = q })
    (c.in_ok-wire.ensures ∙ ap (λ body. request_to (codes "POST") (codes "/indexes/demo/documents") body) c.in_ok-body.ensures.text)
