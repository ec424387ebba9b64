use Rattle.std.proofs.Common.{Some, sym, ap, ◌∙◌}
use Rattle.postings.specs.Dictionary.{lists_of, entries_of, pages_in}
use Rattle.postings.proofs.NumberLemmas.{lists_same}
use Rattle.postings.proofs.dictionary.drop_spent.Goals as goal

pub returns-then-is_empty_at-clause-lists : goal.returns-then-is_empty_at-clause-lists
returns-then-is_empty_at-clause-lists c =
    let old = lists_of c.args.lists.now in
    lists_same old (lists_of c.drop_word.new.lists) c.args.word.now c.drop_word.ensures.others
    (ap entries_of c.drop_word.ensures.gone ∙ sym c.if-is_empty_at.ensures.empty
    ∙ ap (λ slots. entries_of (pages_in slots (Some c.in-Some.number))) c.deref.ensures.value
    ∙ ap (λ o. entries_of (pages_in old.slots o)) c.in-Some.ensures)
