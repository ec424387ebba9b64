use Rattle.std.proofs.Common.{◌≡◌, ◌+◌, ◌++◌, [], ◌∷◌, take, length, rules, arith}
use Rattle.std.proofs.lemmas.List.{take_more, length-take}
use Rattle.index_changes.proofs.Updating.{places-behind}
use Rattle.index_changes.proofs.update.last_places.Goals as goal

pub loop-place-preserved : goal.loop-place-preserved
loop-place-preserved c =
    let documents = c.args.documents.now in
    let place = c.loop-place.place in
    let row = c.index-documents-place.result in
    let more : take (place + 1) documents ≡ take place documents ++ row ∷ [] = search (rules, take_more) in
    let at : place ≡ length (take place documents) = let many = length-take place documents in let less = c.loop-place-test.true in omega (arith, many, less) in
    places-behind c.loop-place.places c.insert.new.self c.in_ok-clone.field-0 (take place documents) (take (place + 1) documents) row place c.loop-place.invariant c.in_ok-clone.ensures.cases at more c.in_ok-insert.ensures.updates
