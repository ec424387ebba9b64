use Rattle.std.proofs.Common.{◌≡◌, ◌∙◌, ℕ, List, Some, sym, ap, subst}
use Rattle.condition_graph.specs.declared.condition.Condition.{Condition}
use Rattle.condition_graph.specs.declared.condition.Condition.TheVariants.{AtBucket}
use Rattle.doc_sets.specs.SetView.{SetView}
use Rattle.posting_sets.specs.Beginnings.{AreAtFirst}
use Rattle.doc_search.specs.Meeting.{AreMeeting}
use Rattle.doc_search.proofs.MeetLemmas.{first_is, some_of}
use Rattle.doc_search.proofs.met.meeting_at_hand.Goals as goal

pub returns : goal.returns
returns c =
    let view = c.args.lists.now.postings in
    let ranks = c.args.lists.now.ranks in
    let term = c.in-AtBucket.term in
    let universe = c.args.universe.now.ids in
    let first : c.args.condition.now ≡ AtBucket term 0 = c.in-AtBucket.is ∙ ap (λ n. AtBucket term n) c.if-bucket-ne0.false in
    some_of (λ (set : SetView). AreAtFirst view term universe set.ids)
    (λ (set : SetView). AreMeeting view ranks c.args.condition.now universe set.ids)
    c.in_ok-found.found c.in_ok-found.ensures
    (λ (set : SetView) are. subst (λ (of : Condition). AreMeeting view ranks of universe set.ids) (sym first)
    (first_is c.numbers_are_those_of_blocks.ensures view term universe set.ids are ranks))
