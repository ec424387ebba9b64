use Rattle.std.proofs.Common.{ℕ, List, ◌∷◌, [], ◌++◌, ap₂, ◌∙◌}
use Rattle.std.proofs.lemmas.List.{replicate-append-replicate}
use Rattle.task_queue.specs.Queue.{row_of}
use Rattle.named_indexes.proofs.Rows.{behind}
use Rattle.named_indexes.proofs.changes.none_there.Goals as goal

pub loop-preserved : goal.loop-preserved
loop-preserved c =
    behind row_of c.loop.outcomes.items c.push.new.self.items c.failed.result c.in_ok-push.ensures.items
    ∙ ap₂ (λ (rows : List ℕ) (n : ℕ). rows ++ n ∷ []) c.loop.invariant c.failed.ensures ∙ replicate-append-replicate c.loop.counter 1 23
