use Rattle.std.proofs.Common.{◌≡◌, map, sym, ap, subst, arith, ◌∙◌}
use Rattle.std.specs.Prelude.{IfOk, OnOk}
use Rattle.std.specs.Cmp.Lexicographic.{slice_cmp}
use Rattle.std.specs.List.Sorted.{IsStrictlySortedBy}
use Rattle.std.specs.Map.{keys_of}
use Rattle.std.specs.Ordering.{nat_cmp}
use Rattle.document_changes.specs.Changes.{kind_view}
use Rattle.task_queue.specs.Queue.{row_of}
use Rattle.named_indexes.specs.Indexes.{index_at}
use Rattle.named_indexes.specs.Inside.{after_kinds, rows_of_kinds}
use Rattle.named_indexes.proofs.There.{there_applied, there_stays, there_rows, need_there, fill_takes}
use Rattle.named_indexes.proofs.changes.fill.Goals as goal

pub returns-in-Some-clause-applied : goal.returns-in-Some-clause-applied
returns-in-Some-clause-applied g c =
    let ks = map kind_view c.args.changes.items in
    rw (c.get_mut.follows.holds c.change_index.new.index).0
    (there_applied c.args.uid.now ks c.args.entries.now.entries c.in-Some.index.now c.change_index.new.index
    c.get_mut.ensures.ordered (sym c.in-Some.ensures.value) (fill_takes ks c.requires.fill) c.change_index.result c.change_index.ensures.applied)

pub returns-in-Some-clause-stays : goal.returns-in-Some-clause-stays
returns-in-Some-clause-stays g c =
    let ks = map kind_view c.args.changes.items in
    rw (c.get_mut.follows.holds c.change_index.new.index).0
    (there_stays c.args.uid.now ks c.args.entries.now.entries c.in-Some.index.now c.change_index.new.index
    c.get_mut.ensures.ordered (sym c.in-Some.ensures.value) (fill_takes ks c.requires.fill) c.change_index.result c.change_index.ensures.stays)

pub returns-in-Some-clause-rows : goal.returns-in-Some-clause-rows
returns-in-Some-clause-rows g c =
    let ks = map kind_view c.args.changes.items in
    there_rows c.args.uid.now ks c.args.entries.now.entries c.in-Some.index.now c.change_index.new.index
    c.get_mut.ensures.ordered (sym c.in-Some.ensures.value) (fill_takes ks c.requires.fill) (λ outcomes. map row_of outcomes.items) c.change_index.result c.change_index.ensures.rows

pub returns-in-Some-clause-fetched : goal.returns-in-Some-clause-fetched
returns-in-Some-clause-fetched g c =
    let need = need_there c.args.uid.now (map kind_view c.args.changes.items) c.args.entries.now.entries c.in-Some.index.now (sym c.in-Some.ensures.value) in
    omega (arith, need, c.change_index.ensures.fetched)

pub fill_absent-requires-clause-absent : goal.fill_absent-requires-clause-absent
fill_absent-requires-clause-absent g c =
    let same = c.get_mut.follows.holds-at-none in
    record {
      none = ap (λ m. index_at c.args.uid.now m.entries) same ∙ sym c.in-None.ensures.value;
      ordered = subst (λ m. IsStrictlySortedBy (slice_cmp nat_cmp) (keys_of m.entries)) (sym same) c.get_mut.ensures.ordered;
    }

pub returns-clause-applied : goal.returns-clause-applied
returns-clause-applied g c =
    subst (λ m. OnOk c.fill_absent.result (c.fill_absent.new.entries.entries ≡ after_kinds c.args.uid.now (map kind_view c.args.changes.items) m.entries)) c.get_mut.follows.holds-at-none
    c.fill_absent.ensures.applied

pub returns-clause-rows : goal.returns-clause-rows
returns-clause-rows g c =
    subst (λ m. IfOk c.fill_absent.result (λ outcomes. map row_of outcomes.items ≡ rows_of_kinds c.args.uid.now (map kind_view c.args.changes.items) m.entries)) c.get_mut.follows.holds-at-none
    c.fill_absent.ensures.rows
