use Rattle.std.proofs.Common.{◌≡◌, ◌||◌, ℕ, List}
use Rattle.std.specs.Vec.Iter.{into_iter_items}
use Rattle.postings.specs.declared.change.Side.{Side}
use Rattle.postings.specs.Changes.{named, gathered}
use Rattle.postings.proofs.joined.joined.Given as goal

abbrev pub invariant-loop-word : goal.invariant-loop-word
invariant-loop-word l =
    (goal.iterator-loop-word).can_next l.word-iterator ×
    (goal.iterator-loop-word).is_finite l.word-iterator ×
    ((s : Side) (w : List ℕ) (e : ℕ) → (named s w e l.words.entries || gathered s w e (into_iter_items l.word-iterator)) ≡ gathered s w e l.fn.rows.items)
