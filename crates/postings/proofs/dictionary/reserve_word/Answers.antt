use Rattle.std.proofs.Common.{◌≡◌, Option, Some, None, refl, ◌∙◌}
use Rattle.std.specs.Option.{IsSome, option_map}
use Rattle.postings.specs.declared.slots.Slot.{Slot}
use Rattle.postings.specs.Dictionary.{Lists, lists_of}
use Rattle.postings.proofs.NumberLemmas.{others_same}
use Rattle.postings.proofs.dictionary.reserve_word.Goals as goal

is_there : {A B : Type 0} (f : A → B) (o : Option A) (b : B) → option_map f o ≡ Some b → IsSome o
is_there f None b h = absurd (cc)
is_there f (Some a) b h = refl

pub reserve_at-requires-clause-inside : goal.reserve_at-requires-clause-inside
reserve_at-requires-clause-inside c =
    is_there (λ (slot : Slot). slot.word) _ c.args.word.now (c.in_ok-number.ensures.numbered.word c.args.word.now c.in_ok-number.number c.in_ok-number.ensures.number)

pub returns-in_err-reserve_at-clause-others : goal.returns-in_err-reserve_at-clause-others
returns-in_err-reserve_at-clause-others c =
    let old = lists_of c.some_number_of.new.lists in
    let new : Lists = record { numbers = c.some_number_of.new.lists.numbers.entries; slots = c.reserve_at.new.slots.items } in
    λ w apart. others_same old new c.args.word.now c.in_ok-number.number c.in_ok-number.ensures.numbered c.in_ok-number.ensures.number (λ w. refl)
    c.in_err-reserve_at.ensures.others w apart ∙ c.in_ok-number.ensures.others w apart

pub returns-clause-others : goal.returns-clause-others
returns-clause-others c =
    let old = lists_of c.some_number_of.new.lists in
    let new : Lists = record { numbers = c.some_number_of.new.lists.numbers.entries; slots = c.reserve_at.new.slots.items } in
    λ w apart. others_same old new c.args.word.now c.in_ok-number.number c.in_ok-number.ensures.numbered c.in_ok-number.ensures.number (λ w. refl)
    c.in_ok-reserve_at.ensures.others w apart ∙ c.in_ok-number.ensures.others w apart
