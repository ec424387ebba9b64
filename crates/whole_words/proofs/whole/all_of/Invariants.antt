use Rattle.std.proofs.Common.{◌≡◌, ℕ, take}
use Rattle.doc_sets.specs.Sets.{has}
use Rattle.whole_words.specs.Costs.{is_in_some}
use Rattle.whole_words.proofs.whole.all_of.Given as goal

abbrev pub invariant-loop-set : goal.invariant-loop-set
invariant-loop-set l = (id : ℕ) → has l.found id ≡ is_in_some (take l.set-index l.sets) id
