-- A graph of words in a row.
use Rattle.std.proofs.Common.{ℕ, ◌+◌, ◌-◌, ◌<◌, ◌^◌, List, arith}
use Rattle.std.specs.List.{AllByRecursion}
use Rattle.condition_graph.specs.declared.graph.ConditionEdge.{ConditionEdge}
use Rattle.condition_graph.specs.Paths.{IsForward}
use Rattle.condition_graph.specs.Promise.{IsCondition, IsConditionGraph}
use Rattle.condition_graph.proofs.PathLemmas.{all-weaken, paths-small, Falls}
use Rattle.bench_parts.specs.Ranks.{IsStep}

-- how many words are left at a place
left : ℕ → ℕ → ℕ
left words place = words - place

falls : (words : ℕ) (edges : List ConditionEdge) (e : ConditionEdge) → IsStep words e → Falls words edges (left words) e
unfolding left
falls words edges e is = let a = is.within in let b = is.one in let c = is.cost in omega arith

forward : (words : ℕ) (e : ConditionEdge) → IsStep words e → IsForward (words + 1) e
forward words e is = let a = is.within in let b = is.one in record { forward = omega arith; within = omega arith }

pub row-of-words : (words : ℕ) (edges : List ConditionEdge) → words < 2 ^ 16 → AllByRecursion (IsStep words) edges
    → IsConditionGraph (record { nodes = words + 1; edges = edges })
unfolding left
row-of-words words edges few all = record {
  some = omega arith;
  forward = all-weaken (IsForward (words + 1)) (IsStep words) (forward words) edges all;
  conditions = all-weaken (λ e. IsCondition e.condition) (IsStep words) (λ e is. is.condition) edges all;
  small = paths-small (record { nodes = words + 1; edges = edges }) (left words)
      (all-weaken (Falls words edges (left words)) (IsStep words) (falls words edges) edges all) (omega arith);
}
