use Rattle.std.proofs.Common.{◌≡◌, ℕ, ◌&&◌, ◌||◌}
use Rattle.std.specs.List.Sorted.{IsStrictlySortedBy}
use Rattle.std.specs.Map.{keys_of}
use Rattle.doc_sets.specs.Sets.{has}
use Rattle.postings.specs.Dictionary.{word_cmp}
use Rattle.facet_index.specs.Ranges.{is_listed}
use Rattle.facet_index.proofs.ranges.add_short.Given as goal

abbrev pub invariant-loop-key : goal.invariant-loop-key
invariant-loop-key l = record {
  found : (d : ℕ) → ((is_listed l.last d l.key-iterator && has l.universe.ids d) || has l.found d)
      ≡ ((is_listed l.last d l.fn.rows && has l.universe.ids d) || has l.initial.found d);
  sorted : IsStrictlySortedBy word_cmp (keys_of l.key-iterator);
}
