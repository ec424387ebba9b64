use Rattle.std.proofs.Common.{◌≡◌, filter, subst, IfSome}
use Rattle.path_costs.proofs.UsableLemmas.{known-pushed}
use Rattle.path_costs.proofs.usable.add_usable.Goals as goal

pub returns-in_ok-push-in-Some-clause-known : goal.returns-in_ok-push-in-Some-clause-known
returns-in_ok-push-in-Some-clause-known g c =
    let meets = g.R.Resolve.meets c.args.source.now in
    let universe = c.args.universe.now.ids in
    let old = c.args.usable.now in
    known-pushed meets universe old.edges.items old.met.items c.args.edge c.in-Some.docs c.docs_of.new.last c.push-else-is_empty.new.usable
    c.requires.known.count c.requires.known.met
    (subst (λ found. IfSome found (λ docs. docs.ids ≡ filter (meets c.args.edge.condition) universe)) c.in-Some.is c.in_ok-docs_of.ensures.docs)
    c.in_ok-docs_of.ensures.last c.in_ok-push-in-Some.ensures.edges c.in_ok-push-in-Some.ensures.met c.in_ok-push-in-Some.ensures.last
