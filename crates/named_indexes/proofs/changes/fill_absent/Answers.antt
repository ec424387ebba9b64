use Rattle.std.proofs.Common.{map, arith, ◌≤◌, ◌<◌, length}
use Rattle.document_changes.specs.Changes.{kind_view}
use Rattle.task_queue.specs.Queue.{row_of}
use Rattle.named_indexes.proofs.Absent.{new_applied, new_rows, full_applied, full_rows}
use Rattle.named_indexes.proofs.There.{need_new}
use Rattle.named_indexes.proofs.changes.fill_absent.Goals as goal

pub returns-then-len-ge-MOST_INDEXES-clause-applied : goal.returns-then-len-ge-MOST_INDEXES-clause-applied
returns-then-len-ge-MOST_INDEXES-clause-applied g c =
    let es = c.args.entries.now.entries in
    let full : 1000 ≤ length es = omega (arith, c.len.ensures.len) in
    full_applied c.args.uid.now (map kind_view c.args.changes.items) es c.requires.fill c.requires.absent c.refused_each.result full

pub returns-then-len-ge-MOST_INDEXES-clause-rows : goal.returns-then-len-ge-MOST_INDEXES-clause-rows
returns-then-len-ge-MOST_INDEXES-clause-rows g c =
    let es = c.args.entries.now.entries in
    let full : 1000 ≤ length es = omega (arith, c.len.ensures.len) in
    full_rows c.args.uid.now (map kind_view c.args.changes.items) es c.requires.fill c.requires.absent (λ outcomes. map row_of outcomes.items) c.refused_each.result full c.refused_each.ensures

pub returns-clause-applied : goal.returns-clause-applied
returns-clause-applied g c =
    let es = c.args.entries.now.entries in
    let room : length es < 1000 = omega (arith, c.len.ensures.len) in
    new_applied c.args.uid.now (map kind_view c.args.changes.items) es c.requires.fill c.requires.absent c.fill_new.result c.fill_new.new.entries.entries room c.fill_new.ensures.applied

pub returns-clause-rows : goal.returns-clause-rows
returns-clause-rows g c =
    let es = c.args.entries.now.entries in
    let room : length es < 1000 = omega (arith, c.len.ensures.len) in
    new_rows c.args.uid.now (map kind_view c.args.changes.items) es c.requires.fill c.requires.absent (λ outcomes. map row_of outcomes.items) c.fill_new.result room c.fill_new.ensures.rows

pub returns-clause-fetched : goal.returns-clause-fetched
returns-clause-fetched g c =
    let need = need_new c.args.uid.now (map kind_view c.args.changes.items) c.args.entries.now.entries c.requires.absent.none in
    omega (arith, need, c.fill_new.ensures.fetched)
