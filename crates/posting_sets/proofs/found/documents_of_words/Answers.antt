use Rattle.std.proofs.Common.{map, ap, ◌∙◌}
use Rattle.posting_sets.proofs.OccursLemmas.{words_found, words_lacking, ok_of}
use Rattle.posting_sets.proofs.KeptLemmas.{kept_found}
use Rattle.posting_sets.proofs.found.documents_of_words.Goals as goal

pub returns-in-Some : goal.returns-in-Some
returns-in-Some c = ok_of _ _ c.and.result c.and.ensures (λ set e.
    kept_found c.args.postings.now c.args.words.now c.requires.words c.in-Some.kept.now.ids c.args.universe.now.ids set.ids c.in-Some.ensures c.requires.universe e)

pub returns-in-Some-2 : goal.returns-in-Some-2
returns-in-Some-2 c =
    let lists = rw c.in-Some-2.is at c.in_ok-lists.ensures in
    ok_of _ _ c.documents_of_row.result c.documents_of_row.ensures (λ set are.
    words_found c.args.postings.now c.args.words.now c.requires.words c.args.universe.now.ids set.ids (map (λ list. list.now.entries) c.as_slice.result.now)
    c.requires.universe (ap (map (λ list. list.now.entries)) c.as_slice.ensures.value ∙ lists) are)

pub returns-in-None : goal.returns-in-None
returns-in-None c =
    words_lacking c.args.postings.now c.args.words.now c.requires.words c.args.universe.now.ids c.new.result.ids c.requires.universe (rw c.in-None.is at c.in_ok-lists.ensures) c.new.ensures
