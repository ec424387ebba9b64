use Rattle.std.proofs.Common.{rules}
use Rattle.std.proofs.lemmas.Fn.{always_returns_same}
use Rattle.sort_rule.proofs.EntryLemmas.{by_key, by_key-order, rising_from_sorted, entries_moved}
use Rattle.sort_rule.proofs.entries.in_order.Goals as goal

pub returns-clause-rising : goal.returns-clause-rising
returns-clause-rising c =
    rising_from_sorted _ (c.sort_unstable_by.ensures.sorted by_key by_key-order (always_returns_same _ _ _ (λ a r f' k. search rules)))

pub returns-clause-same : goal.returns-clause-same
returns-clause-same c = λ key universe are. entries_moved key universe _ _ c.sort_unstable_by.ensures.permutation are
