use Rattle.std.proofs.Common.{◌∙◌, ◌+◌, ◌<◌, List, ℕ, ◌∷◌, ◌++◌, [], length, take, get_or, sym, ap, subst, arith}
use Rattle.std.proofs.lemmas.List.{length-take-le}
use Rattle.search_routes.specs.Redo.{task_again}
use Rattle.durable_machine.specs.Recorded.{AreTasks}
use Rattle.durable_machine.proofs.Payloads.{as_many, more_tasks, read_at, take_more}
use Rattle.durable_machine.proofs.recording.first_of.Goals as goal

pub add-requires-clause-room : goal.add-requires-clause-room
add-requires-clause-room c =
    let queue = c.args.machine.now.queue in
    let k = c.loop-task.task-index in
    let many = ap length c.queued-task-items.ensures.tasks in
    let some = as_many c.args.machine.now.finished c.loop-task.first.payloads (take k queue) c.loop-task.invariant.tasks in
    let taken = length-take-le k queue (omega (arith, many, c.loop-task-test.true)) in
    omega (arith, c.loop-task.invariant.number, some, taken, many, c.loop-task-test.true, c.queued-task-items.ensures.fit)

pub loop-task-preserved : goal.loop-task-preserved
loop-task-preserved c =
    let queue = c.args.machine.now.queue in
    let from = c.args.machine.now.finished in
    let k = c.loop-task.task-index in
    let t = c.task-item.result in
    let bytes = c.bytes.result.now in
    let tasks = c.queued-task-items.ensures.tasks in
    let lt : k < length queue = omega (arith, ap length tasks, c.loop-task-test.true) in
    let at = c.task-item.is ∙ ap (λ ts. get_or ts k t) tasks in
    let taken = length-take-le k queue (omega (arith, lt)) in
    let again = read_at queue from k t bytes c.queued-task-items.ensures.again c.queued-task-items.ensures.numbered lt at (record { spells = c.bytes.ensures.spells; short = c.bytes.ensures.short }) in
    let more = more_tasks from c.loop-task.first.payloads (take k queue) bytes t c.loop-task.invariant.tasks (ap (λ (n : ℕ). task_again (from + n) bytes) taken ∙ again) in
    record {
      number = ap (λ f. f.number) c.in_ok-add.ensures.added ∙ c.loop-task.invariant.number;
      tasks = subst (λ (ps : List (List ℕ)). AreTasks from ps (take (k + 1) queue)) (sym (ap (λ f. f.payloads) c.in_ok-add.ensures.added))
          (subst (λ ts. AreTasks from (c.loop-task.first.payloads ++ bytes ∷ []) ts) (sym (take_more queue k t lt at)) more);
    }
