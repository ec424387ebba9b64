use Rattle.std.proofs.Common.{◌≡◌, ◌<◌, length, slice_get, Some, ap, sym, subst, ◌∙◌}
use Rattle.posting_sets.specs.Numbers.{set_at}
use Rattle.posting_sets.proofs.OccursLemmas.{ok_of}
use Rattle.condition_graph.specs.Promise.{IsCondition}
use Rattle.doc_search.specs.Meeting.{AreMeeting}
use Rattle.doc_search.proofs.MeetLemmas.{free_is, pair_is, rank_is, bucket_is}
use Rattle.doc_search.proofs.met.meeting.Goals as goal

pub returns-in-Free : goal.returns-in-Free
returns-in-Free c = ok_of _ _ c.copy_of.result c.copy_of.ensures (λ set same.
    subst (λ condition. AreMeeting c.args.lists.now.postings c.args.lists.now.ranks condition c.args.universe.now.ids set.ids) (sym c.in-Free.is)
    (free_is c.args.lists.now.postings c.args.lists.now.ranks c.args.universe.now.ids set.ids same))

pub returns-in_ok-sets-in-Pair : goal.returns-in_ok-sets-in-Pair
returns-in_ok-sets-in-Pair c =
    subst (λ condition. AreMeeting c.args.lists.now.postings c.args.lists.now.ranks condition c.args.universe.now.ids c.nth.result.ids) (sym c.in-Pair.is)
    (pair_is c.args.lists.now.postings c.args.lists.now.ranks c.in-Pair.left c.in-Pair.right c.in-Pair.right_prefix c.in-Pair.cost c.args.universe.now.ids
    c.in_ok-sets-in-Pair.sets.items c.nth.result (subst IsCondition c.in-Pair.is c.requires) c.in_ok-sets-in-Pair.ensures
    (subst (λ k. k < length c.in_ok-sets-in-Pair.sets.items → slice_get c.in_ok-sets-in-Pair.sets.items k ≡ Some c.nth.result) c.from.ensures c.nth.ensures))

pub returns-in_ok-rows-in-AtRank : goal.returns-in_ok-rows-in-AtRank
returns-in_ok-rows-in-AtRank c = ok_of _ _ c.set_at.result c.set_at.ensures (λ set is.
    subst (λ condition. AreMeeting c.args.lists.now.postings c.args.lists.now.ranks condition c.args.universe.now.ids set.ids) (sym c.in-AtRank.is)
    (rank_is c.numbers_are_those_of_blocks.ensures c.args.lists.now.postings c.args.lists.now.ranks c.in-AtRank.term c.in-AtRank.rank c.args.universe.now.ids set.ids
    c.in_ok-rows-in-AtRank.rows.items c.in_ok-rows-in-AtRank.ensures (is ∙ ap (set_at c.in-AtRank.rank) c.as_slice.ensures.value)))

pub returns-in_ok-rows-in-AtBucket : goal.returns-in_ok-rows-in-AtBucket
returns-in_ok-rows-in-AtBucket c = ok_of _ _ c.set_at-in-AtBucket.result c.set_at-in-AtBucket.ensures (λ set is.
    subst (λ condition. AreMeeting c.args.lists.now.postings c.args.lists.now.ranks condition c.args.universe.now.ids set.ids) (sym c.in-AtBucket.is)
    (bucket_is c.numbers_are_those_of_blocks.ensures c.args.lists.now.postings c.args.lists.now.ranks c.in-AtBucket.term c.in-AtBucket.bucket c.args.universe.now.ids set.ids
    c.in_ok-rows-in-AtBucket.rows.items c.in_ok-rows-in-AtBucket.ensures
    (is ∙ ap (set_at c.from-in-AtBucket.result) c.as_slice-in-AtBucket.ensures.value
    ∙ ap (λ n. set_at n c.in_ok-rows-in-AtBucket.rows.items) c.from-in-AtBucket.ensures)))
