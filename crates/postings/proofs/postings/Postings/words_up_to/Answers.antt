use Rattle.std.proofs.Common.{None, if◌then◌else◌, sym, ap, subst, ◌∙◌, rules}
use Rattle.std.specs.BTreeMap.Range.{is_past_end}
use Rattle.std.specs.Range.Bound.{bound_map}
use Rattle.std.specs.List.Sorted.{IsStrictlySortedBy}
use Rattle.std.specs.Map.{keys_of}
use Rattle.postings.specs.Dictionary.{word_cmp, value_at, entries_of, pages_in, list_at, some_list}
use Rattle.postings.specs.Words.{shown_rows}
use Rattle.postings.proofs.BackLemmas.{to_sorted, shows_to}
use Rattle.postings.proofs.postings.Postings.words_up_to.Goals as goal

pub returns-clause-lists : goal.returns-clause-lists
returns-clause-lists c = λ word.
    ap (λ lists. value_at word (shown_rows c.deref.result.now lists)) (c.range.ensures.between (search rules))
    ∙ shows_to c.deref.result.now (bound_map (λ w. w.now) c.args.high) word c.self.inside.lists.numbers.entries c.len-words.ensures.ordered
    ∙ ap (λ s. if is_past_end word_cmp (bound_map (λ w. w.now) c.args.high) word then None else some_list (entries_of (pages_in s (value_at word c.self.inside.lists.numbers.entries)))) c.deref.ensures.value
    ∙ ap (λ v. if is_past_end word_cmp (bound_map (λ w. w.now) c.args.high) word then None else some_list (list_at word v)) c.self.view_is

pub returns-clause-order : goal.returns-clause-order
returns-clause-order c = subst (λ lists. IsStrictlySortedBy word_cmp (keys_of (shown_rows c.deref.result.now lists))) (sym (c.range.ensures.between (search rules)))
    (to_sorted c.deref.result.now (bound_map (λ w. w.now) c.args.high) c.self.inside.lists.numbers.entries c.len-words.ensures.ordered)
