use Rattle.std.proofs.Common.{◌≡◌, ◌∷◌, List, true, subst, ◌∙◌}
use Rattle.std.specs.Map.Iter.{deref_pair}
use Rattle.std.proofs.lemmas.Map.Iter.{rest_more, rest_all}
use Rattle.doc_values.specs.Ids.{is_uid}
use Rattle.index_image.specs.Rows.{IndexData, index_view}
use Rattle.index_image.specs.State.{is_above, IsIndex}
use Rattle.named_indexes.proofs.Listing.{listed_more, listed}
use Rattle.named_indexes.proofs.Uids.{rows_few}
use Rattle.named_indexes.proofs.images.rows_of.Goals as goal

pub loop-uid-preserved : goal.loop-uid-preserved
loop-uid-preserved c =
    let row = c.in_ok-to_image.field-0 in
    let uid = c.in-Some.uid.now in
    let next : c.loop-uid.uid-iterator ≡ (uid, c.in-Some.index.now) ∷ c.next.new.self =
    rest_more deref_pair c.loop-uid.uid-iterator c.next.new.self c.next.result (c.in-Some.uid, c.in-Some.index) c.in-Some.is c.next.ensures.steps in
    let fits : is_uid uid ≡ true → (before : List IndexData) → is_above before uid ≡ true → IsIndex before (index_view row) =
    subst (λ u. is_uid u ≡ true → (before : List IndexData) → is_above before u ≡ true → IsIndex before (index_view row)) c.in_ok-clone.ensures.cases c.in_ok-to_image.ensures.state in
    listed_more c.args.entries.now.entries c.loop-uid.uid-iterator c.next.new.self uid c.in-Some.index.now c.loop-uid.rows.items c.push.new.self.items row
    c.requires.ordered c.requires.each c.loop-uid.invariant next c.in_ok-push.ensures.items
    (c.in_ok-to_image.ensures.uid ∙ c.in_ok-clone.ensures.cases) c.in_ok-to_image.ensures.index fits

pub returns-clause-few : goal.returns-clause-few
returns-clause-few c =
    let none = rest_all deref_pair c.loop-uid.uid-iterator c.next.new.self c.next.result c.in-None.is c.next.ensures.steps in
    let all = listed c.args.entries.now.entries c.loop-uid.uid-iterator c.loop-uid.rows.items c.loop-uid.invariant none in
    rows_few c.loop-uid.rows.items c.args.entries.now.entries all c.requires
