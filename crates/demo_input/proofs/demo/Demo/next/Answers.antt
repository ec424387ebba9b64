use Rattle.std.proofs.Common.{rules, ◌≡◌, ◌+◌, ◌*◌, ◌∷◌, ◌<◌, ◌≤◌, true, sym, ap, ◌∙◌, arith}
use Rattle.demo_input.specs.Draws.{draw}
use Rattle.demo_input.specs.Steps.{steps_left, search_step, view_of}
use Rattle.demo_input.proofs.StepLemmas.{settings_sent, batch_sent, search_sent, none_left}
use Rattle.demo_input.proofs.demo.Demo.next.Goals as goal

pub returns-then-not-self-clause-next : goal.returns-then-not-self-clause-next
returns-then-not-self-clause-next c =
    let d = c.self.inside in
    sym c.self.view_is
    ∙ ap (λ b. steps_left b d.made d.count d.draws.last d.searched) (search rules)
    ∙ settings_sent d.made d.count d.draws.last d.searched
    ∙ ap (λ s. s ∷ steps_left true d.made d.count d.draws.last d.searched) (sym c.in_ok-step.ensures)

pub returns-then-self-clause-next : goal.returns-then-self-clause-next
returns-then-self-clause-next c =
    let d = c.self.inside in
    let size = c.min-size.result in
    let settled : d.settled ≡ true = search rules in
    let step = view_of c.in_ok-step-2.step in
    sym c.self.view_is
    ∙ ap (λ b. steps_left b d.made d.count d.draws.last d.searched) settled
    ∙ batch_sent d.made d.count d.draws.last d.searched size c.if-self.true c.min-size.ensures
    ∙ ap (λ s. s ∷ steps_left true (d.made + size) d.count (draw (6 * size) d.draws.last) d.searched) (sym c.in_ok-step-2.ensures.step)
    ∙ ap (λ x. step ∷ steps_left true (d.made + size) d.count x d.searched) (sym c.in_ok-step-2.ensures.drawn)
    ∙ ap (λ b. step ∷ steps_left b (d.made + size) d.count c.batch_request.new.draws.last d.searched) (sym settled)

pub returns-then-from-eq10-clause-next : goal.returns-then-from-eq10-clause-next
returns-then-from-eq10-clause-next c =
    let d = c.self.inside in
    let settled : d.settled ≡ true = search rules in
    let done : 10 ≤ d.searched = omega (arith, c.from.ensures) in
    let empty =
    sym c.self.view_is ∙ ap (λ b. steps_left b d.made d.count d.draws.last d.searched) settled
    ∙ none_left d.made d.count d.draws.last d.searched c.if-self.false done
    in (empty, empty)

pub returns-clause-next : goal.returns-clause-next
returns-clause-next c =
    let d = c.self.inside in
    let settled : d.settled ≡ true = search rules in
    let more : d.searched < 10 = omega (arith, c.from.ensures, c.self.invariant) in
    let step = view_of c.in_ok-step-3.step in
    sym c.self.view_is
    ∙ ap (λ b. steps_left b d.made d.count d.draws.last d.searched) settled
    ∙ search_sent d.made d.count d.draws.last d.searched c.if-self.false more
    ∙ ap (λ q. search_step (d.searched + 1) q ∷ steps_left true d.made d.count d.draws.last (d.searched + 1)) (sym c.query.ensures)
    ∙ ap (λ s. s ∷ steps_left true d.made d.count d.draws.last (d.searched + 1)) (sym c.in_ok-step-3.ensures)
    ∙ ap (λ b. step ∷ steps_left b d.made d.count d.draws.last (d.searched + 1)) (sym settled)
