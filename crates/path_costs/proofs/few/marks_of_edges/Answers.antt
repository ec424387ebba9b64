use Rattle.std.proofs.Common.{◌≡◌, ◌∙◌, ◌+◌, ap, sym, subst, length, map, arith, ℕ, Bool}
use Rattle.condition_graph.specs.declared.condition.Condition.{Condition}
use Rattle.path_costs.specs.Found.{AreMet}
use Rattle.path_costs.proofs.ListLemmas.{slice_get-some}
use Rattle.path_costs.proofs.FewLemmas.{marked-more, length-push}
use Rattle.path_costs.proofs.few.marks_of_edges.Goals as goal

pub marks_of-requires-clause-right : goal.marks_of-requires-clause-right
marks_of-requires-clause-right g c =
    let P : (Condition → ℕ → Bool) → Type 0 = λ m. AreMet m c.args.links.now.edges.items c.args.universe.now.ids c.args.met.now.items in
    subst P (sym c.loop-k.invariant.kept) c.requires.right

pub loop-k-preserved : goal.loop-k-preserved
loop-k-preserved g c =
    let edge = slice_get-some c.args.links.now.edges.items c.loop-k.k (omega arith) in
    let P : (Condition → ℕ → Bool) → Type 0 = λ m. c.in_ok-of_edge.of_edge.items ≡ map (m edge.0.condition) c.args.ids.now in
    record {
      kept = c.in_ok-of_edge.ensures.kept ∙ c.loop-k.invariant.kept;
      len = ap length c.in_ok-push.ensures.items ∙ length-push c.loop-k.marks.items c.in_ok-of_edge.of_edge ∙ ap (λ n. n + 1) c.loop-k.invariant.len;
      marked = marked-more (g.R.Resolve.meets c.args.source.now) c.args.links.now.edges.items c.args.ids.now c.loop-k.marks.items c.push.new.self.items c.loop-k.k edge.0 c.in_ok-of_edge.of_edge
          edge.1 c.loop-k.invariant.len c.in_ok-push.ensures.items (subst P c.loop-k.invariant.kept (c.in_ok-of_edge.ensures.marks edge.0 edge.1)) c.loop-k.invariant.marked;
    }

pub returns-clause-marks : goal.returns-clause-marks
returns-clause-marks g c k e less at = c.loop-k.invariant.marked k e (omega arith) at
