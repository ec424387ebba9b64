use Rattle.std.proofs.Common.{◌≡◌, ◌+◌, Bool, ◌&&◌, ◌||◌, take, sym, ap, ◌∙◌}
use Rattle.std.specs.List.{list_any}
use Rattle.std.proofs.lemmas.List.Folds.{list_any_more}
use Rattle.sorted_pages.specs.Entries.{has}
use Rattle.posting_sets.specs.Gathered.{ids_at, is_numbered}
use Rattle.posting_sets.proofs.PrefixLemmas.{one_list, added_step}
use Rattle.posting_sets.proofs.ByNumberLemmas.{of_document}
use Rattle.posting_sets.proofs.prefix.add_numbers_of_lists.Goals as goal

pub loop-list-preserved : goal.loop-list-preserved
loop-list-preserved c =
    let ids = c.args.universe.now.ids in
    let number = c.args.number in
    let lists = c.args.lists.now in
    let i = c.loop-list.list-index in
    let item = c.list-item.result in
    let adds = c.in_ok-add_list.ensures.each in
    record {
      each = λ n q.
          let old = has (ids_at n c.loop-list.sets.items) q in
          let one = one_list ids q (is_numbered number n q) (of_document number n q) item.now.entries adds.0 adds.1 in
          added_step _ (has ids q && list_any (is_numbered number n q) item.now.entries) old
          (list_any (λ list. has ids q && list_any (is_numbered number n q) list.now.entries) (take i lists))
          (has (ids_at n c.args.sets.now.items) q)
          (list_any (λ list. has ids q && list_any (is_numbered number n q) list.now.entries) (take (i + 1) lists))
          (adds.2 n q ∙ ap (λ b. b || old) one)
          (c.loop-list.invariant.each n q)
          (list_any_more (λ list. has ids q && list_any (is_numbered number n q) list.now.entries) lists i item c.loop-list-test.true
          ∙ ap (λ r. list_any (λ list. has ids q && list_any (is_numbered number n q) list.now.entries) (take i lists)
          || (has ids q && list_any (is_numbered number n q) r.now.entries)) (sym c.list-item.is));
      few = c.in_ok-add_list.ensures.few;
    }
