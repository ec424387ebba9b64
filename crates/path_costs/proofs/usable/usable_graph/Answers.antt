use Rattle.std.proofs.Common.{◌∙◌, ap, filter}
use Rattle.condition_graph.specs.EdgesView.{EdgesView}
use Rattle.path_costs.specs.Usable.{is_usable}
use Rattle.path_costs.proofs.UsableLemmas.{graph-kept, cost-same}
use Rattle.path_costs.proofs.usable.usable_graph.Goals as goal

pub returns-clause-graph : goal.returns-clause-graph
returns-clause-graph g c =
    let keep = is_usable (g.R.Resolve.meets c.args.source.now) c.args.universe.now.ids in
    let made : EdgesView = record { nodes = c.graph.inside.nodes; edges = c.in_ok-usable.usable.edges.items } in
    graph-kept keep c.args.graph made (ap (λ (v : EdgesView). v.nodes) c.graph.view_is)
    (c.in_ok-usable.ensures.edges ∙ ap (λ (v : EdgesView). filter keep v.edges) c.graph.view_is) c.requires

pub returns-clause-cost : goal.returns-clause-cost
returns-clause-cost g c =
    let keep = is_usable (g.R.Resolve.meets c.args.source.now) c.args.universe.now.ids in
    let made : EdgesView = record { nodes = c.graph.inside.nodes; edges = c.in_ok-usable.usable.edges.items } in
    cost-same (g.R.Resolve.meets c.args.source.now) c.args.universe.now.ids c.args.graph made (ap (λ (v : EdgesView). v.nodes) c.graph.view_is)
    (c.in_ok-usable.ensures.edges ∙ ap (λ (v : EdgesView). filter keep v.edges) c.graph.view_is)
