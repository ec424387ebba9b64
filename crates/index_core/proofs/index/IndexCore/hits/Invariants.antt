use Rattle.std.proofs.Common.{◌≡◌, ◌+◌, map, take}
use Rattle.std.specs.List.{filter_map}
use Rattle.search_result.specs.View.{hit_view}
use Rattle.index_core.specs.Shown.{hit_at}
use Rattle.index_core.proofs.index.IndexCore.hits.Given as goal

-- the hits of the ids so far, and a step for each
abbrev pub invariant-loop-id : goal.invariant-loop-id
invariant-loop-id g l =
    (map hit_view l.hits.items ≡ filter_map (λ id. hit_at l.self l.call id.0) (take l.id-index l.ids)) × (l.fetches ≡ l.initial.fetches + l.id-index)
