-- Edges that no document may take change no cost.
use Rattle.std.proofs.Common.{◌≡◌, ℕ, zero, suc, ◌+◌, ◌-◌, ◌<◌, ◌^◌, ◌==◌, Bool, true, false, not, ◌||◌, List, [], ◌∷◌, ◌++◌, map, filter, flat_map, length, Option, Some, is_none, slice_get, cond, length-append, IfSome, inl, inr, refl, sym, ap, ap₂, subst, ◌∙◌, arith}
use Rattle.std.proofs.lemmas.List.Elements.{filter-append}
use Rattle.std.specs.List.{AllByRecursion}
use Rattle.search_base.specs.Least.{least}
use Rattle.doc_sets.specs.Sets.{has}
use Rattle.doc_sets.specs.SetView.{SetView}
use Rattle.condition_graph.specs.declared.condition.Condition.{Condition}
use Rattle.condition_graph.specs.declared.condition.Condition.TheVariants.{Free, Occurs, Pair, AtRank, AtBucket}
use Rattle.condition_graph.specs.declared.graph.ConditionEdge.{ConditionEdge}
use Rattle.condition_graph.specs.EdgesView.{EdgesView}
use Rattle.condition_graph.specs.Numbers.{number_of, at_number}
use Rattle.condition_graph.specs.Paths.{paths_from, paths, path_sum, is_path_met, path_cost, IsForward}
use Rattle.condition_graph.specs.Promise.{IsCondition, IsConditionGraph}
use Rattle.path_costs.specs.Costs.{cost_of}
use Rattle.path_costs.specs.Found.{AreMet}
use Rattle.path_costs.specs.Usable.{IsNumbered, is_usable, AreKnown}
use Rattle.path_costs.specs.declared.usable.Numbered.{Numbered}
use Rattle.path_costs.specs.declared.usable.Usable.{Usable}
use Rattle.path_costs.proofs.ListLemmas.{slice_get-push}
use Rattle.path_costs.proofs.SetLemmas.{met-just}

module _ (last : ℕ) (all : List ConditionEdge) (keep : ConditionEdge → Bool) where
  -- the paths that begin with an edge
  abbrev onward : List ConditionEdge → ℕ → ConditionEdge → List (List ConditionEdge)
  onward edges n edge = map (λ (path : List ConditionEdge). edge ∷ path) (paths_from n last edges edge.to)

  abbrev out_of : List ConditionEdge → ℕ → List ConditionEdge
  out_of edges node = filter (λ (edge : ConditionEdge). edge.from == node) edges

  abbrev left : List ConditionEdge
  left = filter keep all

  -- where those that are left out are not met, the paths that are met stay
  module _ (meets : Condition → Bool) (unmet : (edge : ConditionEdge) → keep edge ≡ false → meets edge.condition ≡ false) where
    begins : (edge : ConditionEdge) (rest : List (List ConditionEdge)) (b : Bool) → meets edge.condition ≡ b
        → filter (is_path_met meets) (map (λ (path : List ConditionEdge). edge ∷ path) rest) ≡ cond b (map (λ (path : List ConditionEdge). edge ∷ path) (filter (is_path_met meets) rest)) []
    begins edge [] true e = refl
    begins edge [] false e = refl
    begins edge (path ∷ rest) true e = one (begins edge rest true e) (is_path_met meets path) refl
      where
        one : filter (is_path_met meets) (map (λ (p : List ConditionEdge). edge ∷ p) rest) ≡ map (λ (p : List ConditionEdge). edge ∷ p) (filter (is_path_met meets) rest)
            → (b : Bool) → is_path_met meets path ≡ b → filter (is_path_met meets) (map (λ (p : List ConditionEdge). edge ∷ p) (path ∷ rest)) ≡ map (λ (p : List ConditionEdge). edge ∷ p) (filter (is_path_met meets) (path ∷ rest))
        one more true h = rw (e, h) (ap (λ l. (edge ∷ path) ∷ l) more)
        one more false h = rw (e, h) more
    begins edge (path ∷ rest) false e = rw e (begins edge rest false e)

    same_on : (n : ℕ) → ((v : ℕ) → filter (is_path_met meets) (paths_from n last left v) ≡ filter (is_path_met meets) (paths_from n last all v)) → (node : ℕ) (edges : List ConditionEdge)
        → filter (is_path_met meets) (flat_map (onward left n) (out_of (filter keep edges) node)) ≡ filter (is_path_met meets) (flat_map (onward all n) (out_of edges node))
    same_on n deeper node [] = refl
    same_on n deeper node (edge ∷ edges) = cases (keep edge) refl (edge.from == node) refl (same_on n deeper node edges)
      where
        here : filter (is_path_met meets) (onward left n edge) ≡ filter (is_path_met meets) (onward all n edge)
        here =
            begins edge (paths_from n last left edge.to) (meets edge.condition) refl
            ∙ ap (λ l. cond (meets edge.condition) (map (λ (path : List ConditionEdge). edge ∷ path) l) []) (deeper edge.to)
            ∙ sym (begins edge (paths_from n last all edge.to) (meets edge.condition) refl)

        none : meets edge.condition ≡ false → filter (is_path_met meets) (onward all n edge) ≡ []
        none e = begins edge (paths_from n last all edge.to) false e

        cases : (k : Bool) → keep edge ≡ k → (f : Bool) → (edge.from == node) ≡ f
            → filter (is_path_met meets) (flat_map (onward left n) (out_of (filter keep edges) node)) ≡ filter (is_path_met meets) (flat_map (onward all n) (out_of edges node))
            → filter (is_path_met meets) (flat_map (onward left n) (out_of (cond k (edge ∷ filter keep edges) (filter keep edges)) node))
            ≡ filter (is_path_met meets) (flat_map (onward all n) (cond f (edge ∷ out_of edges node) (out_of edges node)))
        cases true e true f more =
            ap (λ b. filter (is_path_met meets) (flat_map (onward left n) (cond b (edge ∷ out_of (filter keep edges) node) (out_of (filter keep edges) node)))) f
            ∙ filter-append (is_path_met meets) (onward left n edge) (flat_map (onward left n) (out_of (filter keep edges) node))
            ∙ ap₂ (λ a b. a ++ b) here more
            ∙ sym (filter-append (is_path_met meets) (onward all n edge) (flat_map (onward all n) (out_of edges node)))
        cases true e false f more =
            ap (λ b. filter (is_path_met meets) (flat_map (onward left n) (cond b (edge ∷ out_of (filter keep edges) node) (out_of (filter keep edges) node)))) f ∙ more
        cases false e true f more =
            more
            ∙ ap (λ l. l ++ filter (is_path_met meets) (flat_map (onward all n) (out_of edges node))) (sym (none (unmet edge e)))
            ∙ sym (filter-append (is_path_met meets) (onward all n edge) (flat_map (onward all n) (out_of edges node)))
        cases false e false f more = more

    same_paths : (n node : ℕ) → filter (is_path_met meets) (paths_from n last left node) ≡ filter (is_path_met meets) (paths_from n last all node)
    same_paths zero node = refl
    same_paths (suc n) node = cases (same_on n (same_paths n) node all) (node == last)
      where
        cases : filter (is_path_met meets) (flat_map (onward left n) (out_of left node)) ≡ filter (is_path_met meets) (flat_map (onward all n) (out_of all node))
            → (b : Bool) → filter (is_path_met meets) (cond b ([] ∷ []) (flat_map (onward left n) (out_of left node))) ≡ filter (is_path_met meets) (cond b ([] ∷ []) (flat_map (onward all n) (out_of all node)))
        cases more true = refl
        cases more false = more

  -- what holds of all paths holds of those that are left
  split_all : (P : List ConditionEdge → Type 0) (xs ys : List (List ConditionEdge)) → AllByRecursion P (xs ++ ys) → AllByRecursion P xs × AllByRecursion P ys
  split_all P [] ys h = (tt, h)
  split_all P (x ∷ xs) ys h = let both = split_all P xs ys h.1 in ((h.0, both.0), both.1)

  join_all : (P : List ConditionEdge → Type 0) (xs ys : List (List ConditionEdge)) → AllByRecursion P xs → AllByRecursion P ys → AllByRecursion P (xs ++ ys)
  join_all P [] ys g h = h
  join_all P (x ∷ xs) ys g h = (g.0, join_all P xs ys g.1 h)

  behind : (P : List ConditionEdge → Type 0) (edge : ConditionEdge) (rest : List (List ConditionEdge)) → AllByRecursion P (map (λ (path : List ConditionEdge). edge ∷ path) rest) → AllByRecursion (λ path. P (edge ∷ path)) rest
  behind P edge [] h = tt
  behind P edge (path ∷ rest) h = (h.0, behind P edge rest h.1)

  before_all : (P : List ConditionEdge → Type 0) (edge : ConditionEdge) (rest : List (List ConditionEdge)) → AllByRecursion (λ path. P (edge ∷ path)) rest → AllByRecursion P (map (λ (path : List ConditionEdge). edge ∷ path) rest)
  before_all P edge [] h = tt
  before_all P edge (path ∷ rest) h = (h.0, before_all P edge rest h.1)

  left_on : (P : List ConditionEdge → Type 0) (n : ℕ) → ((Q : List ConditionEdge → Type 0) (v : ℕ) → AllByRecursion Q (paths_from n last all v) → AllByRecursion Q (paths_from n last left v)) → (node : ℕ) (edges : List ConditionEdge)
      → AllByRecursion P (flat_map (onward all n) (out_of edges node)) → AllByRecursion P (flat_map (onward left n) (out_of (filter keep edges) node))
  left_on P n deeper node [] h = tt
  left_on P n deeper node (edge ∷ edges) h = cases (keep edge) (edge.from == node) refl (left_on P n deeper node edges) h
    where
      here : AllByRecursion P (onward all n edge) → AllByRecursion P (onward left n edge)
      here g = before_all P edge (paths_from n last left edge.to) (deeper (λ path. P (edge ∷ path)) edge.to (behind P edge (paths_from n last all edge.to) g))

      cases : (k : Bool) → (f : Bool) → (edge.from == node) ≡ f
          → (AllByRecursion P (flat_map (onward all n) (out_of edges node)) → AllByRecursion P (flat_map (onward left n) (out_of (filter keep edges) node)))
          → AllByRecursion P (flat_map (onward all n) (cond f (edge ∷ out_of edges node) (out_of edges node)))
          → AllByRecursion P (flat_map (onward left n) (out_of (cond k (edge ∷ filter keep edges) (filter keep edges)) node))
      cases true true f more g =
          let both = split_all P (onward all n edge) (flat_map (onward all n) (out_of edges node)) g in
          subst (λ b. AllByRecursion P (flat_map (onward left n) (cond b (edge ∷ out_of (filter keep edges) node) (out_of (filter keep edges) node)))) (sym f)
          (join_all P (onward left n edge) (flat_map (onward left n) (out_of (filter keep edges) node)) (here both.0) (more both.1))
      cases true false f more g =
          subst (λ b. AllByRecursion P (flat_map (onward left n) (cond b (edge ∷ out_of (filter keep edges) node) (out_of (filter keep edges) node)))) (sym f) (more g)
      cases false true f more g = more (split_all P (onward all n edge) (flat_map (onward all n) (out_of edges node)) g).1
      cases false false f more g = more g

  left_paths : (n : ℕ) (P : List ConditionEdge → Type 0) (node : ℕ) → AllByRecursion P (paths_from n last all node) → AllByRecursion P (paths_from n last left node)
  left_paths zero P node h = h
  left_paths (suc n) P node h = cases (left_on P n (left_paths n) node all) (node == last) h
    where
      cases : (AllByRecursion P (flat_map (onward all n) (out_of all node)) → AllByRecursion P (flat_map (onward left n) (out_of left node)))
          → (b : Bool) → AllByRecursion P (cond b ([] ∷ []) (flat_map (onward all n) (out_of all node))) → AllByRecursion P (cond b ([] ∷ []) (flat_map (onward left n) (out_of left node)))
      cases more true g = g
      cases more false g = more g

-- what holds of all edges holds of those that are left
pub all-kept : (P : ConditionEdge → Type 0) (keep : ConditionEdge → Bool) (edges : List ConditionEdge) → AllByRecursion P edges → AllByRecursion P (filter keep edges)
all-kept P keep [] h = tt
all-kept P keep (edge ∷ edges) h = cases (keep edge) (all-kept P keep edges h.1)
  where
    cases : (b : Bool) → AllByRecursion P (filter keep edges) → AllByRecursion P (cond b (edge ∷ filter keep edges) (filter keep edges))
    cases true rest = (h.0, rest)
    cases false rest = rest

pub small-kept : (keep : ConditionEdge → Bool) (graph made : EdgesView) → made.nodes ≡ graph.nodes → made.edges ≡ filter keep graph.edges
    → AllByRecursion (λ path. path_sum path < 2 ^ 32) (paths graph) → AllByRecursion (λ path. path_sum path < 2 ^ 32) (paths made)
unfolding paths
small-kept keep graph made nodes edges small =
    subst (λ (n : ℕ). AllByRecursion (λ path. path_sum path < 2 ^ 32) (paths_from (n - 1) (n - 1) made.edges 0)) (sym nodes)
    (subst (λ (es : List ConditionEdge). AllByRecursion (λ path. path_sum path < 2 ^ 32) (paths_from (graph.nodes - 1) (graph.nodes - 1) es 0)) (sym edges)
    (left_paths (graph.nodes - 1) graph.edges keep (graph.nodes - 1) (λ path. path_sum path < 2 ^ 32) 0 small))

pub cost-kept : (keep : ConditionEdge → Bool) (graph made : EdgesView) (meets : Condition → Bool) → made.nodes ≡ graph.nodes → made.edges ≡ filter keep graph.edges
    → ((edge : ConditionEdge) → keep edge ≡ false → meets edge.condition ≡ false) → path_cost meets made ≡ path_cost meets graph
unfolding path_cost paths
cost-kept keep graph made meets nodes edges unmet =
    ap (λ (n : ℕ). least (map path_sum (filter (is_path_met meets) (paths_from (n - 1) (n - 1) made.edges 0)))) nodes
    ∙ ap (λ (es : List ConditionEdge). least (map path_sum (filter (is_path_met meets) (paths_from (graph.nodes - 1) (graph.nodes - 1) es 0)))) edges
    ∙ ap (λ l. least (map path_sum l)) (same_paths (graph.nodes - 1) graph.edges keep meets unmet (graph.nodes - 1) 0)

-- an edge that is not usable is met by no document of the universe
nothing-kept : (docs universe : List ℕ) (p : ℕ → Bool) (d : ℕ) → docs ≡ filter p universe → has universe d ≡ true → (length docs == 0) ≡ true → p d ≡ false
nothing-kept [] universe p d e r h = sym (met-just [] universe p d e r)
nothing-kept (x ∷ docs) universe p d e r h = absurd (grind arith)

not-either : (a b : Bool) → (a || not b) ≡ false → b ≡ true
not-either true b e = absurd (cc)
not-either false true e = refl
not-either false false e = absurd (cc)

pub unmet : (meets : Condition → ℕ → Bool) (universe : List ℕ) (d : ℕ) → has universe d ≡ true → (edge : ConditionEdge) → is_usable meets universe edge ≡ false
    → meets edge.condition d ≡ false
unmet meets universe d r edge e =
    nothing-kept (filter (meets edge.condition) universe) universe (meets edge.condition) d refl r
    (not-either (is_none (number_of edge.condition)) (length (filter (meets edge.condition) universe) == 0) e)

pub cost-same : (meets : Condition → ℕ → Bool) (universe : List ℕ) (graph made : EdgesView) → made.nodes ≡ graph.nodes → made.edges ≡ filter (is_usable meets universe) graph.edges
    → (d : ℕ) → has universe d ≡ true → cost_of meets made d ≡ cost_of meets graph d
cost-same meets universe graph made nodes edges d r =
    cost-kept (is_usable meets universe) graph made (λ condition. meets condition d) nodes edges (λ edge e. unmet meets universe d r edge e)

pub graph-kept : (keep : ConditionEdge → Bool) (graph made : EdgesView) → made.nodes ≡ graph.nodes → made.edges ≡ filter keep graph.edges → IsConditionGraph graph → IsConditionGraph made
graph-kept keep graph made nodes edges is = record {
  some = subst (λ (n : ℕ). 0 < n) (sym nodes) is.some;
  forward = subst (λ (es : List ConditionEdge). AllByRecursion (IsForward made.nodes) es) (sym edges)
      (all-kept (IsForward made.nodes) keep graph.edges (subst (λ (n : ℕ). AllByRecursion (IsForward n) graph.edges) (sym nodes) is.forward));
  conditions = subst (λ (es : List ConditionEdge). AllByRecursion (λ edge. IsCondition edge.condition) es) (sym edges) (all-kept (λ edge. IsCondition edge.condition) keep graph.edges is.conditions);
  small = small-kept keep graph made nodes edges is.small;
}

-- one edge more
pub known-more : (meets : Condition → ℕ → Bool) (universe : List ℕ) (edges : List ConditionEdge) (met : List (Option SetView)) (edge : ConditionEdge) (found : Option SetView)
    → length met ≡ length edges → AreMet meets edges universe met → ((set : SetView) → found ≡ Some set → set.ids ≡ filter (meets edge.condition) universe)
    → AreMet meets (edges ++ edge ∷ []) universe (met ++ found ∷ [])
known-more meets universe edges met edge found count are is i set e here there d r =
    elim (slice_get-push met found i (Some set) here) [
      | inl h ↦ elim (slice_get-push edges edge i e there) [
        | inl k ↦ are i set e h k d r
        | inr k ↦ absurd (past met i (Some set) h (k.0 ∙ sym count))
      ]
      | inr h ↦ elim (slice_get-push edges edge i e there) [
        | inl k ↦ absurd (past edges i e k (h.0 ∙ count))
        | inr k ↦ met-just set.ids universe (meets e.condition) d (is set h.1 ∙ ap (λ (x : ConditionEdge). filter (meets x.condition) universe) k.1) r
      ]
    ]
  where
    past : {X : Type 0} (xs : List X) (n : ℕ) (x : X) → slice_get xs n ≡ Some x → n ≡ length xs → ⊥
    past [] n x e f = absurd (cc)
    past (y ∷ xs) zero x e f = absurd (omega arith)
    past (y ∷ xs) (suc n) x e f = past xs n x e (omega arith)

pub known-pushed : (meets : Condition → ℕ → Bool) (universe : List ℕ) (edges : List ConditionEdge) (met : List (Option SetView)) (edge : ConditionEdge) (docs : SetView) (last : Option Numbered) (new : Usable)
    → length met ≡ length edges → AreMet meets edges universe met → docs.ids ≡ filter (meets edge.condition) universe → IfSome last (IsNumbered meets universe)
    → new.edges.items ≡ edges ++ edge ∷ [] → new.met.items ≡ met ++ Some docs ∷ [] → new.last ≡ last → AreKnown meets universe new
known-pushed meets universe edges met edge docs last new count are is right is_edges is_met is_last = record {
  met = subst (λ (es : List ConditionEdge). AreMet meets es universe new.met.items) (sym is_edges)
      (subst (λ (ms : List (Option SetView)). AreMet meets (edges ++ edge ∷ []) universe ms) (sym is_met)
      (known-more meets universe edges met edge (Some docs) count are (λ set e. let same : docs ≡ set = cc in ap (λ (s : SetView). s.ids) (sym same) ∙ is)));
  count = ap length is_met ∙ length-append met (Some docs ∷ []) ∙ ap (λ n. n + 1) count ∙ sym (length-append edges (edge ∷ [])) ∙ sym (ap length is_edges);
  last = subst (λ o. IfSome o (IsNumbered meets universe)) (sym is_last) right;
}
