use Rattle.std.proofs.Common.{◌≡◌, ◌∷◌, ◌∙◌, length, ap, subst, arith}
use Rattle.change_journal.specs.Format.{shut}
use Rattle.change_journal.specs.Opens.{behind}
use Rattle.queued_changes.specs.State.{accepted}
use Rattle.queued_changes.specs.Machine.{run_out}
use Rattle.queued_changes.specs.Needs.{fill_need}
use Rattle.named_indexes.specs.Changes.{changed}
use Rattle.named_indexes.specs.Needs.{need}
use Rattle.durable_machine.specs.Held.{run_from, tasks_from}
use Rattle.durable_machine.specs.Reopened.{AllBelow}
use Rattle.durable_machine.proofs.Reopening.{count_waits, need_waits, run_waits}
use Rattle.durable_machine.proofs.Settled.{out_queue}
use Rattle.durable_machine.proofs.opening.run_all.Goals as goal

pub returns-in-Ok-clause-idle : goal.returns-in-Ok-clause-idle
returns-in-Ok-clause-idle g c = ap (λ s. s.queue) c.in-Ok.ensures.all ∙ out_queue c.loop-change.machine

pub loop-change-preserved : goal.loop-change-preserved
loop-change-preserved g c =
    let s = c.loop-change.machine in
    let new = c.wait_again.new.machine in
    let place = c.in-Some.change.place in
    let bytes = c.in-Some.change.payload.items in
    let rest = c.next.new.self.rest.items in
    let left : c.loop-change.change-iterator.rest.items ≡ c.in-Some.change ∷ rest = c.in-Some.ensures.steps.0 in
    let waits = c.in_ok-wait_again.ensures.waits in
    record {
      run = λ gate. c.loop-change.invariant.run gate ∙ ap (λ l. run_from c.args.disk (run_out changed s) (behind l (shut gate))) left
          ∙ run_waits c.args.disk place bytes (behind rest (shut gate)) s new waits.0 waits.1 waits.2;
      below = λ gate all. (subst (λ l. AllBelow gate (behind l (shut gate))) left (c.loop-change.invariant.below gate all)).1;
      counted = omega (arith, count_waits s new waits.0 waits.2, c.loop-change.invariant.counted, ap length left);
      fetched = λ gate.
          let all = ap (λ l. fill_need changed need (tasks_from (accepted s) (behind l (shut gate))) s) left in
          let parts = need_waits place bytes (behind rest (shut gate)) s new waits.0 waits.1 waits.2 in
          omega (arith, c.wait_again.ensures.fetched, c.loop-change.invariant.fetched gate, all, parts);
    }
