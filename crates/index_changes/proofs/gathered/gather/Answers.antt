use Rattle.std.proofs.Common.{map, sym, ap, ◌∙◌}
use Rattle.std.proofs.lemmas.List.{nil_from_length}
use Rattle.std.specs.Option.{option_copied}
use Rattle.document_changes.specs.Changes.{kind_view}
use Rattle.index_changes.specs.Gathering.{rows_in}
use Rattle.index_changes.proofs.Gathering.{looks-one, looks-end}
use Rattle.index_changes.proofs.gathered.gather.Goals as goal

pub loop-change-preserved : goal.loop-change-preserved
loop-change-preserved c = (
  looks-one (option_copied c.args.own) c.args.store.now.content (map kind_view c.args.changes.items) (map kind_view c.loop-change.change-iterator.rest.items) (map kind_view c.next.new.self.rest.items)
      (kind_view c.in-Some.change) (rows_in c.loop-change.gathering) (rows_in c.take.new.gathering) c.loop-change.faults.items c.push.new.self.items c.in_ok-fault.fault
      (ap (map kind_view) c.in-Some.ensures.steps.0) c.requires.sound c.in_ok-fault.ensures.back c.in_ok-fault.ensures.fault c.in_ok-fault.ensures.taken c.in_ok-push.ensures.items c.loop-change.invariant.0,
  c.in_ok-fault.ensures.admitting,
)

pub returns : goal.returns
returns c =
    let left = c.loop-change.change-iterator.rest in
    let none = nil_from_length left.items (sym left.ok.0 ∙ c.in-None.ensures.steps.0) in
    looks-end (option_copied c.args.own) c.args.store.now.content (map kind_view c.args.changes.items) (map kind_view c.loop-change.change-iterator.rest.items)
    (record { key = c.loop-change.gathering.key; rows = c.loop-change.gathering.rows; admission = c.finish.result; faults = c.loop-change.faults })
    (ap (map kind_view) none) c.requires.keyed
    (c.finish.ensures c.args.store.now.ids c.args.store.now.content c.loop-change.gathering.rows.items c.loop-change.invariant.1) c.loop-change.invariant.0
