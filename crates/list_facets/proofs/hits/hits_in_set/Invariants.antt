use Rattle.std.proofs.Common.{◌≡◌, ℕ, ◌*◌, ◌^◌, List, ◌++◌, filter}
use Rattle.sorted_pages.specs.Entries.{has}
use Rattle.list_facets.specs.Hits.{AreHits}
use Rattle.list_facets.proofs.hits.hits_in_set.Given as goal

abbrev pub invariant-loop-id : goal.invariant-loop-id
invariant-loop-id l = (done : List ℕ) × AreHits l.hits done
    × (done ++ filter (λ d. has l.list.entries (d * 2 ^ 32)) l.id-iterator ≡ filter (λ d. has l.list.entries (d * 2 ^ 32)) l.initial.id-iterator)
