use Rattle.std.proofs.Common.{map}
use Rattle.filter_tree.specs.Tree.{trees_of}
use Rattle.filter_tree.specs.View.{view}
use Rattle.filter_sets.proofs.SelectLemmas.{narrower, kept, narrowed_answer, adds_more, adds_kept, added_answer, all_selected}
use Rattle.filter_sets.proofs.documents.+select.Goals as goal

pub select-returns-in_ok-clone-in-All : goal.select-returns-in_ok-clone-in-All
select-returns-in_ok-clone-in-All t c =
    all_selected c.args.facets.now c.args.paths.now c.args.tree.now c.args.all.now.ids c.in_ok-clone-in-All.field-0.ids c.in-All.is c.in_ok-clone-in-All.ensures.cases

pub select_each-loop-member-preserved-in-Some : goal.select_each-loop-member-preserved-in-Some
select_each-loop-member-preserved-in-Some t c =
    kept c.args.facets.now c.args.paths.now c.args.members.now c.loop-member.member-index c.member-item.result c.loop-member.conditions.items
    c.push.new.self.items c.in-Some.condition c.loop-member.docs.ids c.args.all.now.ids (trees_of (map view c.args.members.now)) c.loop-member-test.true
    c.member-item.is c.in-Some.ensures c.in_ok-push.ensures.items c.loop-member.invariant

pub select_each-loop-member-preserved : goal.select_each-loop-member-preserved
select_each-loop-member-preserved t c =
    narrower c.args.facets.now c.args.paths.now c.args.members.now c.loop-member.member-index c.member-item.result c.loop-member.conditions.items
    c.loop-member.docs.ids c.in_ok-fewer.fewer.ids c.args.all.now.ids (trees_of (map view c.args.members.now)) c.loop-member-test.true c.member-item.is
    c.in_ok-fewer.ensures c.loop-member.invariant

pub select_each-returns : goal.select_each-returns
select_each-returns t c =
    narrowed_answer c.args.facets.now c.args.paths.now c.args.members.now c.loop-member.member-index c.loop-member.conditions.items c.loop-member.docs.ids
    c.args.all.now.ids (trees_of (map view c.args.members.now)) c.loop-member-test.false c.loop-member.invariant c.each_met.result c.each_met.ensures

pub select_any-loop-member-preserved-in-Some : goal.select_any-loop-member-preserved-in-Some
select_any-loop-member-preserved-in-Some t c =
    adds_kept c.args.facets.now c.args.paths.now c.args.members.now c.loop-member.member-index c.member-item.result c.loop-member.conditions.items
    c.push.new.self.items c.in-Some.condition c.loop-member.found c.args.all.now.ids (trees_of (map view c.args.members.now)) c.loop-member-test.true
    c.member-item.is c.in-Some.ensures c.in_ok-push.ensures.items c.loop-member.invariant

pub select_any-loop-member-preserved : goal.select_any-loop-member-preserved
select_any-loop-member-preserved t c =
    adds_more c.operations_are_on_members.ensures c.args.facets.now c.args.paths.now c.args.members.now c.loop-member.member-index c.member-item.result
    c.loop-member.conditions.items c.in_ok-docs.docs.ids c.loop-member.found c.add.new.self c.args.all.now.ids (trees_of (map view c.args.members.now))
    c.loop-member-test.true c.member-item.is c.in_ok-docs.ensures c.in_ok-add.ensures.ids c.loop-member.invariant

pub select_any-returns : goal.select_any-returns
select_any-returns t c =
    added_answer c.operations_are_on_members.ensures c.args.facets.now c.args.paths.now c.args.members.now c.loop-member.member-index
    c.loop-member.conditions.items c.in_ok-meeting.meeting.ids c.loop-member.found c.add-2.new.self c.args.all.now.ids (trees_of (map view c.args.members.now))
    c.loop-member-test.false c.loop-member.invariant c.in_ok-meeting.ensures c.in_ok-add-2.ensures.ids c.finish.result c.finish.ensures
