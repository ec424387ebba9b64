use Rattle.std.proofs.Common.{◌≡◌, Bool, false, not, ◌&&◌, nat_eq, sym, ap, subst, ◌∙◌}
use Rattle.std.proofs.lemmas.Bool.{eqb-true, false_from_ne_true}
use Rattle.http_wire.specs.Sent.{IsSentAs}
use Rattle.http_wire.specs.declared.reply.Reply.{Reply}
use Rattle.search_routes.specs.Chosen.{answer_of}
use Rattle.search_routes.proofs.LawLemmas.{follows}
use Rattle.search_routes.proofs.performing.is_followed.Goals as goal

pub returns-then-status-ne202 : goal.returns-then-status-ne202
returns-then-status-ne202 c s q starved sent =
    let made : IsSentAs _ (answer_of s q starved) = subst (λ (r : Reply). IsSentAs r (answer_of s q starved)) c.in-Made.is sent in
    let other : nat_eq c.in-Made.status 202 ≡ false = false_from_ne_true (nat_eq c.in-Made.status 202) (λ e. c.if-status-ne202.true (eqb-true c.in-Made.status 202 e)) in
    ap (λ (b : Bool). not b && not (nat_eq c.in-Made.status 503)) (sym other) ∙ follows s q starved c.in-Made.status made.status

pub returns-in-Memory : goal.returns-in-Memory
returns-in-Memory c s q starved sent =
    follows s q starved 503 (subst (λ (r : Reply). IsSentAs r (answer_of s q starved)) c.in-Memory.is sent).status
