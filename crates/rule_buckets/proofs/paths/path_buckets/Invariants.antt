use Rattle.std.proofs.Common.{◌≡◌, ℕ, ◌||◌, drop}
use Rattle.std.specs.List.{AllByRecursion, list_any}
use Rattle.doc_sets.specs.Sets.{has}
use Rattle.rule_buckets.specs.Streams.{IsStream, is_in_any}
use Rattle.rule_buckets.proofs.paths.path_buckets.Given as goal

-- the streams of the levels so far, and the levels that are left
abbrev pub invariant-loop-docs : goal.invariant-loop-docs
invariant-loop-docs g l =
    AllByRecursion (IsStream (g.S.RuleSource.rows) l.query) l.streams.items
    × (l.docs-iterator.rest.items ≡ drop l.level l.initial.docs-iterator.rest.items)
    × ((d : ℕ) → (is_in_any l.streams.items d || list_any (λ s. has s.ids d) l.docs-iterator.rest.items) ≡ list_any (λ s. has s.ids d) l.initial.docs-iterator.rest.items)
