use Rattle.std.proofs.Common.{◌≡◌, List, ℕ, [], ◌∷◌, ◌++◌, map}
use Rattle.facet_counts.specs.Counting.{AreCountsOf}
use Rattle.list_facets.proofs.OwnLemmas.{own_rows}
use Rattle.list_facets.proofs.own.own_counts.Given as goal

abbrev pub invariant-loop-id : goal.invariant-loop-id
invariant-loop-id l = (done : List ℕ) × (done ++ l.id-iterator ≡ l.matching.ids)
    × AreCountsOf l.counts (l.fn.asked ∷ []) (map (own_rows l.path.0 l.leaves) done)
