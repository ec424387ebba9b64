use Rattle.std.proofs.Common.{sym, subst}
use Rattle.posting_sets.proofs.OccursLemmas.{ok_of}
use Rattle.doc_search.specs.Meeting.{AreMeetingByNumber}
use Rattle.doc_search.proofs.MeetLemmas.{pairs_are, ranks_are, buckets_are}
use Rattle.doc_search.proofs.by_number.meeting_by_number.Goals as goal

pub returns-in_ok-sets-in-Pair : goal.returns-in_ok-sets-in-Pair
returns-in_ok-sets-in-Pair c = ok_of _ _ c.numbered.result c.numbered.ensures (λ rows is.
    subst (λ condition. AreMeetingByNumber c.args.lists.now.postings c.args.lists.now.ranks condition c.args.universe.now.ids rows.items) (sym c.in-Pair.is)
    (pairs_are c.args.lists.now.postings c.args.lists.now.ranks c.in-Pair.left c.in-Pair.right c.in-Pair.right_prefix c.in-Pair.cost c.args.universe.now.ids
    c.in_ok-sets-in-Pair.sets.items rows.items c.in_ok-sets-in-Pair.ensures is))

pub returns-in-AtRank : goal.returns-in-AtRank
returns-in-AtRank c = ok_of _ _ c.by_rank.result c.by_rank.ensures (λ rows are.
    subst (λ condition. AreMeetingByNumber c.args.lists.now.postings c.args.lists.now.ranks condition c.args.universe.now.ids rows.items) (sym c.in-AtRank.is)
    (ranks_are c.numbers_are_those_of_blocks.ensures c.args.lists.now.postings c.args.lists.now.ranks c.in-AtRank.term c.in-AtRank.rank c.args.universe.now.ids rows.items are))

pub returns-in-AtBucket : goal.returns-in-AtBucket
returns-in-AtBucket c = ok_of _ _ c.by_bucket.result c.by_bucket.ensures (λ rows are.
    subst (λ condition. AreMeetingByNumber c.args.lists.now.postings c.args.lists.now.ranks condition c.args.universe.now.ids rows.items) (sym c.in-AtBucket.is)
    (buckets_are c.numbers_are_those_of_blocks.ensures c.args.lists.now.postings c.args.lists.now.ranks c.in-AtBucket.term c.in-AtBucket.bucket c.args.universe.now.ids rows.items are))
