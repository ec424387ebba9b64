use Rattle.std.proofs.Common.{refl}
use Rattle.postings.specs.Dictionary.{Lists, lists_of}
use Rattle.postings.proofs.NumberLemmas.{others_same}
use Rattle.postings.proofs.dictionary.change_number.Goals as goal

pub returns-else-is_empty_at-clause-others : goal.returns-else-is_empty_at-clause-others
returns-else-is_empty_at-clause-others c =
    let new : Lists = record { numbers = c.args.lists.now.numbers.entries; slots = c.change_at.new.slots.items } in
    others_same (lists_of c.args.lists.now) new c.args.word.now c.args.number c.requires.numbered c.requires.number (λ w. refl) c.change_at.ensures.others
