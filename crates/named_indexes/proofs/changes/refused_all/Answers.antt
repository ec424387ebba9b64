use Rattle.std.proofs.Common.{◌≡◌, List, map, ap, subst, ◌++◌, ◌∙◌}
use Rattle.std.specs.List.{AllByRecursion}
use Rattle.document_changes.specs.Changes.{KindData, kind_view}
use Rattle.index_changes.specs.Index.{Index}
use Rattle.index_changes.specs.Keyed.{HasKey}
use Rattle.index_changes.specs.Plans.{planned}
use Rattle.task_queue.specs.Queue.{row_of}
use Rattle.named_indexes.specs.Inside.{full_row, plan_row}
use Rattle.named_indexes.proofs.Rows.{row_next}
use Rattle.named_indexes.proofs.changes.refused_all.Goals as goal

pub loop-change-preserved : goal.loop-change-preserved
loop-change-preserved c =
    let all = map kind_view c.args.changes.items in
    let left = map kind_view c.next.new.self.rest.items in
    let k = kind_view c.in-Some.change in
    let here = ap (map kind_view) c.in-Some.ensures.steps.0 in
    let row = c.in_ok-outcome.ensures ∙ ap (λ (i : Index). plan_row (planned i k)) c.requires.empty in
    record {
      rows =
          row_next row_of full_row c.loop-change.outcomes.items c.push.new.self.items c.in_ok-outcome.outcome k left all c.in_ok-push.ensures.items
          row (subst (λ (v : List KindData). map row_of c.loop-change.outcomes.items ++ map full_row v ≡ map full_row all) here c.loop-change.invariant.rows);
      keys = (subst (AllByRecursion HasKey) here c.loop-change.invariant.keys).1;
    }
