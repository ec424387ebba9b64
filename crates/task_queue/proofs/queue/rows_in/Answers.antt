use Rattle.std.proofs.Common.{◌++◌, ◌∷◌, [], List, ℕ, sym, ◌∙◌, ap, arith}
use Rattle.search_base.specs.declared.outcome.OutcomeRow.{OutcomeRow}
use Rattle.task_queue.proofs.Moves.{took, none_left}
use Rattle.task_queue.proofs.queue.rows_in.Goals.{in-Some+in_ok-uid+in_ok-push, in_default}
use Rattle.task_queue.proofs.queue.rows_in.Goals as goal

pub loop-at-preserved : goal.loop-at-preserved
loop-at-preserved c =
    let at = c.loop-at.at in
    let all = c.args.ring.now.items in
    let before = c.loop-at.rows.items in
    record {
      end = c.loop-at.invariant.end;
      items = elim c.match-get.branch [
        | in-Some+in_ok-uid+in_ok-push w ↦
            let row = w.in-Some.row.now in
            ap (λ v. v.items) w.rows-is ∙ w.in_ok-push.ensures.items
            ∙ ap (λ (uid : List ℕ). before ++ record { uid = uid; kind = row.kind; row = row.row } ∷ []) w.in_ok-uid.ensures.cases
            ∙ ap (λ (l : List OutcomeRow). l ++ row ∷ []) c.loop-at.invariant.items ∙ sym (took all at row (sym w.in-Some.ensures))
        | in_default w ↦ absurd (let past = none_left all at (sym w.in_default.ensures) in omega (arith, past, c.loop-at-test.true, c.loop-at.invariant.end))
      ];
    }
