use Rattle.std.proofs.Common.{sym, subst, ℕ, Bool}
use Rattle.condition_graph.specs.declared.condition.Condition.{Condition}
use Rattle.path_costs.specs.Few.{AreRows}
use Rattle.path_costs.proofs.RowLemmas.{going-begun}
use Rattle.path_costs.proofs.stream.step.Goals as goal

pub begin-requires-clause-found : goal.begin-requires-clause-found
begin-requires-clause-found g c none = (c.requires.going.live none).right

pub next_of_few-requires-clause-rows : goal.next_of_few-requires-clause-rows
next_of_few-requires-clause-rows g c =
    let P : (Condition → ℕ → Bool) → Type 0 = λ m. AreRows m c.args.links.now c.args.remaining.now.ids c.in-Some.rows.items in
    let going = going-begun (g.R.Resolve.meets c.args.source.now) c.args.links.now c.args.remaining.now.ids c.args.next.now c.args.found.now c.args.few.now c.begin.new.few c.requires.going c.in_ok-begin.ensures.few in
    subst P (sym c.in_ok-begin.ensures.kept) (going.rows c.in-Some.rows c.in-Some.is)
