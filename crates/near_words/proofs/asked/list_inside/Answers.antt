use Rattle.std.proofs.Common.{ap, ap₂, ◌∙◌}
use Rattle.sorted_pages.specs.Entries.{has, union}
use Rattle.sorted_pages.proofs.SetLemmas.{or-nil}
use Rattle.near_words.proofs.asked.list_inside.Goals as goal

pub returns : goal.returns
returns c = λ entry.
    ap (λ entries. has entries entry) (c.insert_reserved.ensures ∙ ap₂ union c.as_slice-2.ensures.value (c.reserve.ensures.entries ∙ c.new-list.ensures)
    ∙ or-nil c.in_order-entries.result.items c.in_order-entries.ensures.increasing)
    ∙ c.in_order-entries.ensures.same entry ∙ c.in_ok-places_inside.ensures entry
