use Rattle.std.proofs.Common.{◌≡◌, ℕ, ◌/◌, ◌^◌, List, Bool, ◌&&◌, ◌||◌, ◌++◌, flat_map, sym, ap, ap₂, ◌∙◌}
use Rattle.std.specs.List.{list_any}
use Rattle.doc_sets.specs.Sets.{has as has_id}
use Rattle.sorted_pages.specs.Entries.{has}
use Rattle.sorted_pages.proofs.SplitLemmas.{has-append}
use Rattle.posting_sets.proofs.PrefixLemmas.{any_mapped}
use Rattle.near_words.specs.Inside.{inside}
use Rattle.near_words.proofs.GatherLemmas.{spread, has_inside, has_all_inside}
use Rattle.near_words.proofs.asked.places_inside.Goals as goal

pub returns : goal.returns
returns c = λ entry.
    let universe = c.args.universe.now.ids in
    let member = has_id universe (entry / 2 ^ 32) in
    let view = c.args.prefix.now in
    let lists = c.long.result.now in
    let all = flat_map (λ list. inside universe list.now.entries) lists in
    let test : List ℕ → Bool = λ row. has row entry in
    let long : list_any (λ list. has list.now.entries entry) lists ≡ list_any test view.long =
    sym (any_mapped (λ list. list.now.entries) test lists) ∙ ap (list_any test) c.long.ensures in
    ap test (c.in_ok-add_row_inside.ensures
    ∙ ap₂ (λ (done row : List ℕ). done ++ inside universe row) (c.in_ok-add_lists_inside.ensures ∙ ap (λ (none : List ℕ). none ++ all) c.new-entries.ensures.items) c.short.ensures)
    ∙ has-append all (inside universe view.short) entry
    ∙ ap₂ ◌||◌ (has_all_inside (λ list. list.now.entries) universe lists entry ∙ ap (λ b. b && member) long) (has_inside universe view.short entry)
    ∙ spread (list_any test view.long) (has view.short entry) member
