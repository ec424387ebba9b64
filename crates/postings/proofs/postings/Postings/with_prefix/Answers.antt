use Rattle.std.specs.List.{starts_with}
use Rattle.std.proofs.Common.{None, nat_eq, if◌then◌else◌, sym, ap, subst, ◌∙◌, rules}
use Rattle.std.specs.List.Sorted.{IsStrictlySortedBy}
use Rattle.std.specs.Map.{keys_of}
use Rattle.postings.specs.Dictionary.{word_cmp, value_at, entries_of, pages_in, list_at, some_list}
use Rattle.postings.specs.Prefixes.{first_rows}
use Rattle.postings.proofs.PrefixLemmas.{shows_all, rows_sorted}
use Rattle.postings.proofs.postings.Postings.with_prefix.Goals as goal

pub returns-clause-lists : goal.returns-clause-lists
returns-clause-lists c = λ word.
    ap (λ lists. value_at word (first_rows c.deref.result.now c.args.prefix.now lists)) (c.range.ensures.between (search rules))
    ∙ shows_all c.deref.result.now c.args.prefix.now word c.self.inside.lists.numbers.entries c.len-words.ensures.ordered
    ∙ ap (λ s. if starts_with nat_eq word c.args.prefix.now then some_list (entries_of (pages_in s (value_at word c.self.inside.lists.numbers.entries))) else None) c.deref.ensures.value
    ∙ ap (λ v. if starts_with nat_eq word c.args.prefix.now then some_list (list_at word v) else None) c.self.view_is

pub returns-clause-order : goal.returns-clause-order
returns-clause-order c = subst (λ lists. IsStrictlySortedBy word_cmp (keys_of (first_rows c.deref.result.now c.args.prefix.now lists))) (sym (c.range.ensures.between (search rules)))
    (rows_sorted c.deref.result.now c.args.prefix.now c.self.inside.lists.numbers.entries c.len-words.ensures.ordered)
