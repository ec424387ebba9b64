use Rattle.doc_rows.proofs.StartLemmas.{next_from_last}
use Rattle.doc_rows.proofs.path_words.next_start.Goals as goal

pub returns-in-Some : goal.returns-in-Some
returns-in-Some c =
    next_from_last c.args.start c.min-position.result _ c.args.words.now c.in-Some.last.now c.requires c.in-Some.ensures.item.0 c.in-Some.ensures.item.1 c.min-position.ensures c.min.ensures
