use Rattle.std.proofs.Common.{sym, subst, arith, List}
use Rattle.condition_graph.specs.declared.graph.ConditionEdge.{ConditionEdge}
use Rattle.condition_graph.specs.Promise.{IsConditionGraph}
use Rattle.path_costs.proofs.TestLemmas.{two-edges}
use Rattle.tests_conditions.proofs.paths.two_edges.Goals as goal

pub returns : goal.returns
returns c =
    let dear = c.in_ok-dear.dear in
    let cheap = c.in_ok-cheap.cheap in
    let dear_costs = c.in_ok-dear.ensures.cost in
    let cheap_costs = c.in_ok-cheap.ensures.cost in
    let P : List ConditionEdge → Type 0 = λ edges. IsConditionGraph (record { nodes = 2; edges = edges }) in
    subst P (sym c.in_ok-edges.ensures.items)
    (two-edges dear cheap
    (record { from = c.in_ok-dear.ensures.from; to = c.in_ok-dear.ensures.to; cost = omega arith; condition = c.in_ok-dear.ensures.condition })
    (record { from = c.in_ok-cheap.ensures.from; to = c.in_ok-cheap.ensures.to; cost = omega arith; condition = c.in_ok-cheap.ensures.condition }))
