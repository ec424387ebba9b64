use Rattle.std.proofs.Common.{◌≡◌, ℕ, List, Bool, true, ◌&&◌, ◌||◌, sym, ap, ◌∙◌}
use Rattle.std.specs.List.{list_any}
use Rattle.sorted_pages.specs.Entries.{has}
use Rattle.posting_sets.specs.Gathered.{ids_at, is_numbered}
use Rattle.posting_sets.proofs.PrefixLemmas.{any_mapped, guarded_both}
use Rattle.posting_sets.proofs.ByNumberLemmas.{no_set, prefix_numbered}
use Rattle.posting_sets.proofs.prefix.PrefixPlaces.numbers.Goals as goal

pub returns-clause-each : goal.returns-clause-each
returns-clause-each c = λ documents are.
    let ids = c.args.universe.now.ids in
    let number = c.args.number in
    let view = c.args.self.now in
    prefix_numbered view documents are number ids c.add_numbers_of_row.new.sets.items (λ n id.
    let test : List ℕ → Bool = λ row. has ids id && list_any (is_numbered number n id) row in
    let listed = has (ids_at n c.add_numbers_of_lists.new.sets.items) id in
    let first = has (ids_at n c.new-sets.result.items) id in
    let long : list_any (λ list. has ids id && list_any (is_numbered number n id) list.now.entries) c.long.result.now ≡ list_any test view.long =
    sym (any_mapped (λ list. list.now.entries) test c.long.result.now) ∙ ap (list_any test) c.long.ensures in
    guarded_both true (has (ids_at n c.add_numbers_of_row.new.sets.items) id) (test view.short) listed (list_any test view.long) first
    (c.in_ok-add_numbers_of_row.ensures.each n id ∙ ap (λ row. test row || listed) c.short.ensures)
    (c.in_ok-add_numbers_of_lists.ensures.each n id ∙ ap (λ b. b || first) long)
    (no_set n id c.new-sets.result.items c.new-sets.ensures.items))
