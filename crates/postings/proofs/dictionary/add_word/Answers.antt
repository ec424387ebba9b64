use Rattle.std.proofs.Common.{Option, Some, sym, ap, subst, ◌∙◌}
use Rattle.std.specs.Option.{option_map}
use Rattle.postings.specs.declared.slots.Slot.{Slot}
use Rattle.postings.specs.Dictionary.{Lists, lists_of, entries_of, pages_in, HasSameSlots}
use Rattle.postings.proofs.WordLemmas.{Written, written_here}
use Rattle.postings.proofs.NumberLemmas.{added_numbered, added_others, lists_same}
use Rattle.postings.proofs.dictionary.add_word.Goals as goal

pub returns-in-Ok-clause-numbered : goal.returns-in-Ok-clause-numbered
returns-in-Ok-clause-numbered c =
    let old = lists_of c.args.lists.now in
    let new : Lists = record { numbers = c.insert.new.self.entries; slots = c.put_at.new.slots.items } in
    let n = c.in_ok-number.number in
    let slot : Slot = record { word = c.in_ok-copy_word.field-0; list = c.new.result } in
    let others : HasSameSlots n old.slots new.slots = λ m apart. c.put_at.ensures.others m apart ∙ c.in_ok-number.ensures.slots m in
    let written = subst (λ v. Written v (Some n) old.numbers new.numbers) c.in_ok-key.ensures c.in-Ok.ensures.updates.0 in
    added_numbered old new c.args.word.now n slot c.in_ok-copy_word.ensures c.requires.numbered c.requires.new c.in_ok-number.ensures.free written others
    c.put_at.ensures.here

pub returns-in-Ok-clause-others : goal.returns-in-Ok-clause-others
returns-in-Ok-clause-others c =
    let old = lists_of c.args.lists.now in
    let new : Lists = record { numbers = c.insert.new.self.entries; slots = c.put_at.new.slots.items } in
    let n = c.in_ok-number.number in
    let others : HasSameSlots n old.slots new.slots = λ m apart. c.put_at.ensures.others m apart ∙ c.in_ok-number.ensures.slots m in
    let written = subst (λ v. Written v (Some n) old.numbers new.numbers) c.in_ok-key.ensures c.in-Ok.ensures.updates.0 in
    added_others old new c.args.word.now n c.requires.numbered c.in_ok-number.ensures.free written others

pub returns-in-Ok-clause-lists : goal.returns-in-Ok-clause-lists
returns-in-Ok-clause-lists c =
    let old = lists_of c.args.lists.now in
    let new : Lists = record { numbers = c.insert.new.self.entries; slots = c.put_at.new.slots.items } in
    let n = c.in_ok-number.number in
    let others : HasSameSlots n old.slots new.slots = λ m apart. c.put_at.ensures.others m apart ∙ c.in_ok-number.ensures.slots m in
    let written = subst (λ v. Written v (Some n) old.numbers new.numbers) c.in_ok-key.ensures c.in-Ok.ensures.updates.0 in
    lists_same old new c.args.word.now (added_others old new c.args.word.now n c.requires.numbered c.in_ok-number.ensures.free written others)
    (ap (λ o. entries_of (pages_in new.slots o)) (written_here c.args.word.now (Some n) old.numbers new.numbers written)
    ∙ ap (λ (o : Option Slot). entries_of (option_map (λ slot. slot.list) o)) c.put_at.ensures.here ∙ c.new.ensures
    ∙ ap (λ o. entries_of (pages_in old.slots o)) (sym c.requires.new))
