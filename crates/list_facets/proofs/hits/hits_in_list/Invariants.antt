use Rattle.std.proofs.Common.{◌≡◌, ℕ, List, ◌++◌, filter}
use Rattle.std.specs.List.{concat}
use Rattle.doc_sets.specs.Sets.{has}
use Rattle.list_facets.specs.Hits.{ids_of, AreHits}
use Rattle.list_facets.proofs.hits.hits_in_list.Given as goal

abbrev pub invariant-loop-page : goal.invariant-loop-page
invariant-loop-page l = (done : List ℕ) × AreHits l.hits done
    × (done ++ filter (has l.matching.ids) (ids_of (concat l.page-iterator)) ≡ filter (has l.matching.ids) (ids_of (concat l.initial.page-iterator)))
