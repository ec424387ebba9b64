use Rattle.std.proofs.Common.{◌≡◌, length, map, ap, rules, arith, ◌∙◌}
use Rattle.std.proofs.lemmas.List.{length-map}
use Rattle.document_changes.specs.Changes.{kind_view}
use Rattle.task_queue.specs.Queue.{row_of}
use Rattle.named_indexes.proofs.Rows.{many_faults}
use Rattle.named_indexes.proofs.Absent.{new_put, fault_rows, need_of_new}
use Rattle.named_indexes.proofs.changes.fill_new.Goals as goal

pub returns-clause-applied : goal.returns-clause-applied
returns-clause-applied g c =
    new_put (map kind_view c.args.changes.items) c.in_ok-index.index c.apply_batch.new.self c.as_slice.result.now c.in_ok-index.ensures
    (c.as_slice.ensures.value ∙ c.in_ok-faults.ensures.faults) c.args.uid.now c.args.entries.now.entries c.put_made.new.entries.entries
    c.in_ok-faults.ensures.applied c.in_ok-put_made.ensures.put

pub returns-clause-rows : goal.returns-clause-rows
returns-clause-rows g c =
    fault_rows (map kind_view c.args.changes.items) c.in_ok-index.index c.apply_batch.new.self c.as_slice-2.result.now c.in_ok-index.ensures
    (c.as_slice-2.ensures.value ∙ c.in_ok-faults.ensures.faults) (map row_of c.outcomes_of.result.items) c.outcomes_of.ensures

pub returns-clause-fetched : goal.returns-clause-fetched
returns-clause-fetched g c =
    let need = need_of_new (map kind_view c.args.changes.items) c.in_ok-index.index c.in_ok-index.ensures in
    omega (arith, need, c.in_ok-faults.ensures.at_most)

pub outcomes_of-requires-clause-room : goal.outcomes_of-requires-clause-room
outcomes_of-requires-clause-room g c =
    let many =
    ap length (c.as_slice-2.ensures.value ∙ c.in_ok-faults.ensures.faults) ∙ many_faults (map kind_view c.args.changes.items) c.in_ok-index.index
    ∙ length-map c.args.changes.items kind_view in
    let len : c.len.result ≡ length c.args.changes.items = search rules in
    omega (arith, many, len, c.in_ok-outcomes.ensures.exact)
