use Rattle.std.proofs.Common.{map, ap, ◌∙◌}
use Rattle.posting_sets.proofs.ByNumberLemmas.{words_numbered, words_without}
use Rattle.posting_sets.proofs.by_number.numbers_of_words.Goals as goal

pub returns-in_default-clause-each : goal.returns-in_default-clause-each
returns-in_default-clause-each c =
    words_without c.args.postings.now c.args.words.now c.requires c.args.number c.args.universe.now.ids c.new.result.items (rw c.in_default.is at c.in_ok-lists.ensures) c.new.ensures.items

pub returns-clause-each : goal.returns-clause-each
returns-clause-each c =
    let lists = rw c.in-Some.is at c.in_ok-lists.ensures in
    let adds = c.in_ok-add_places.ensures.each in
    words_numbered c.args.postings.now c.args.words.now c.requires c.args.number c.args.universe.now.ids (map (λ list. list.now.entries) c.as_slice.result.now)
    adds.0 c.new-sets.result.items c.add_places.new.sets.items (ap (map (λ list. list.now.entries)) c.as_slice.ensures.value ∙ lists)
    adds.1 c.new-sets.ensures.items adds.2
