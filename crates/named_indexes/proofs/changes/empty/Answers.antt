use Rattle.std.proofs.Common.{◌≡◌, length, map, sym, ap, arith, rules, ◌∙◌}
use Rattle.std.proofs.lemmas.List.{length-map}
use Rattle.document_changes.specs.Changes.{kind_view}
use Rattle.task_queue.specs.Queue.{row_of}
use Rattle.named_indexes.proofs.Absent.{none_applied, none_rows}
use Rattle.named_indexes.proofs.There.{there_applied, there_stays, there_rows, need_there, empty_takes}
use Rattle.named_indexes.proofs.changes.empty.Goals as goal

pub returns-in-Some-clause-applied : goal.returns-in-Some-clause-applied
returns-in-Some-clause-applied g c =
    let ks = map kind_view c.args.changes.items in
    rw (c.get_mut.follows.holds c.change_index.new.index).0
    (there_applied c.args.uid.now ks c.args.entries.now.entries c.in-Some.index.now c.change_index.new.index
    c.get_mut.ensures.ordered (sym c.in-Some.ensures.value) (empty_takes ks c.requires.empty) c.change_index.result c.change_index.ensures.applied)

pub returns-in-Some-clause-stays : goal.returns-in-Some-clause-stays
returns-in-Some-clause-stays g c =
    let ks = map kind_view c.args.changes.items in
    rw (c.get_mut.follows.holds c.change_index.new.index).0
    (there_stays c.args.uid.now ks c.args.entries.now.entries c.in-Some.index.now c.change_index.new.index
    c.get_mut.ensures.ordered (sym c.in-Some.ensures.value) (empty_takes ks c.requires.empty) c.change_index.result c.change_index.ensures.stays)

pub returns-in-Some-clause-rows : goal.returns-in-Some-clause-rows
returns-in-Some-clause-rows g c =
    let ks = map kind_view c.args.changes.items in
    there_rows c.args.uid.now ks c.args.entries.now.entries c.in-Some.index.now c.change_index.new.index
    c.get_mut.ensures.ordered (sym c.in-Some.ensures.value) (empty_takes ks c.requires.empty) (λ outcomes. map row_of outcomes.items) c.change_index.result c.change_index.ensures.rows

pub returns-in-Some-clause-fetched : goal.returns-in-Some-clause-fetched
returns-in-Some-clause-fetched g c =
    let need = need_there c.args.uid.now (map kind_view c.args.changes.items) c.args.entries.now.entries c.in-Some.index.now (sym c.in-Some.ensures.value) in
    omega (arith, need, c.change_index.ensures.fetched)

pub returns-in-None-clause-applied : goal.returns-in-None-clause-applied
returns-in-None-clause-applied g c =
    let same = c.get_mut.follows.holds-at-none in
    none_applied c.args.uid.now (map kind_view c.args.changes.items) c.args.entries.now.entries c.requires.empty (sym c.in-None.ensures.value) c.none_there.result
    c.get_mut.follows.lender-at-none.entries (ap (λ m. m.entries) same)

pub returns-in-None-clause-rows : goal.returns-in-None-clause-rows
returns-in-None-clause-rows g c =
    let many : c.len.result ≡ length c.args.changes.items = search rules in
    none_rows c.args.uid.now (map kind_view c.args.changes.items) c.args.entries.now.entries c.requires.empty (sym c.in-None.ensures.value) (λ outcomes. map row_of outcomes.items) c.none_there.result
    c.len.result (many ∙ sym (length-map c.args.changes.items kind_view)) c.none_there.ensures
