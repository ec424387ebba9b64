use Rattle.std.proofs.Common.{◌≡◌, ◌++◌, filter}
use Rattle.std.specs.List.{AllByRecursion}
use Rattle.condition_graph.specs.Promise.{IsCondition}
use Rattle.path_costs.specs.Usable.{is_usable, AreKnown}
use Rattle.path_costs.proofs.usable.usable_edges.Given as goal

-- the edges so far, with those that are usable of the ones to come
abbrev pub invariant-loop-edge : goal.invariant-loop-edge
invariant-loop-edge g l = record {
  conditions : AllByRecursion (λ edge. IsCondition edge.condition) l.edge-iterator.rest.items;
  known : AreKnown (g.R.Resolve.meets l.source) l.universe.ids l.usable;
  edges : (l.usable.edges.items ++ filter (is_usable (g.R.Resolve.meets l.source) l.universe.ids) l.edge-iterator.rest.items)
      ≡ filter (is_usable (g.R.Resolve.meets l.source) l.universe.ids) l.initial.edge-iterator.rest.items;
}
