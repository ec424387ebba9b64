use Rattle.std.proofs.Common.{ap, ◌∙◌, None, codes}
use Rattle.demo_input.specs.Steps.{settings_step, request_to}
use Rattle.demo_input.proofs.demo.settings_request.Goals as goal

pub returns : goal.returns
unfolding settings_step
returns c =
    ap (λ q. record { search = None; request = q })
    (c.in_ok-wire.ensures ∙ ap (λ body. request_to (codes "PATCH") (codes "/indexes/demo/settings") body) c.in_ok-body.ensures.ok)
