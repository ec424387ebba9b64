use Rattle.std.proofs.Common.{◌≡◌, ℕ, ◌||◌, List, drop}
use Rattle.doc_sets.specs.Sets.{has}
use Rattle.postings.specs.Documents.{Document}
use Rattle.path_lengths.specs.Measured.{AreLengthsOf}
use Rattle.whole_words.specs.Costs.{is_as_long}
use Rattle.whole_words.proofs.whole.as_long.Given as goal

abbrev pub invariant-loop-path : goal.invariant-loop-path
invariant-loop-path l = (documents : List Document) → AreLengthsOf l.lengths documents → (id : ℕ)
    → (has l.found id || is_as_long documents l.count l.path (drop l.path l.begun) id) ≡ is_as_long documents l.count 0 l.begun id
