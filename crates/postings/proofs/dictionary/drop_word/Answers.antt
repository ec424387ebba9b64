use Rattle.postings.specs.Dictionary.{Lists, lists_of}
use Rattle.postings.proofs.NumberLemmas.{dropped_numbered, dropped_others}
use Rattle.postings.proofs.dictionary.drop_word.Goals as goal

pub returns-clause-numbered : goal.returns-clause-numbered
returns-clause-numbered c =
    let new : Lists = record { numbers = c.remove-number.new.self.entries; slots = c.clear_at.new.slots.items } in
    dropped_numbered (lists_of c.args.lists.now) new c.args.word.now c.args.number c.requires.numbered c.requires.number
    c.remove-number.ensures.updates.0 c.clear_at.ensures.others c.clear_at.ensures.here

pub returns-clause-others : goal.returns-clause-others
returns-clause-others c =
    let new : Lists = record { numbers = c.remove-number.new.self.entries; slots = c.clear_at.new.slots.items } in
    dropped_others (lists_of c.args.lists.now) new c.args.word.now c.args.number c.requires.numbered c.requires.number
    c.remove-number.ensures.updates.0 c.clear_at.ensures.others
