use Rattle.std.proofs.Common.{None, if◌then◌else◌, sym, ap, subst, ◌∙◌, rules}
use Rattle.std.specs.BTreeMap.Range.{is_from_start}
use Rattle.std.specs.Range.Bound.{bound_map}
use Rattle.std.specs.List.Sorted.{IsStrictlySortedBy}
use Rattle.std.specs.Map.{keys_of}
use Rattle.postings.specs.Dictionary.{word_cmp, value_at, entries_of, pages_in, list_at, some_list}
use Rattle.postings.specs.Words.{shown_rows}
use Rattle.postings.proofs.FromLemmas.{from_sorted, shows_from}
use Rattle.postings.proofs.postings.Postings.words_from.Goals as goal

pub returns-clause-lists : goal.returns-clause-lists
returns-clause-lists c = λ word.
    ap (λ lists. value_at word (shown_rows c.deref.result.now lists)) (c.range.ensures.between (search rules))
    ∙ shows_from c.deref.result.now (bound_map (λ w. w.now) c.args.low) word c.self.inside.lists.numbers.entries c.len-words.ensures.ordered
    ∙ ap (λ s. if is_from_start word_cmp (bound_map (λ w. w.now) c.args.low) word then some_list (entries_of (pages_in s (value_at word c.self.inside.lists.numbers.entries))) else None) c.deref.ensures.value
    ∙ ap (λ v. if is_from_start word_cmp (bound_map (λ w. w.now) c.args.low) word then some_list (list_at word v) else None) c.self.view_is

pub returns-clause-order : goal.returns-clause-order
returns-clause-order c = subst (λ lists. IsStrictlySortedBy word_cmp (keys_of (shown_rows c.deref.result.now lists))) (sym (c.range.ensures.between (search rules)))
    (from_sorted c.deref.result.now (bound_map (λ w. w.now) c.args.low) c.self.inside.lists.numbers.entries c.len-words.ensures.ordered)
