-- The least cost of a document from each node.
use Rattle.std.proofs.Common.{◌≡◌, ◌⊎◌, inl, inr, ℕ, zero, suc, ◌+◌, ◌-◌, ◌<◌, ◌≤◌, ◌^◌, ◌==◌, nat_le, min, Bool, true, false, ◌||◌, List, [], ◌∷◌, ◌++◌, Some, slice_get, refl, sym, ap, ap₂, subst, ◌∙◌, arith, map, filter, take, length, Vec}
use Rattle.std.specs.declared.alloc.Global.{Global}
use Rattle.std.proofs.lemmas.List.{take_more, take_all, map-append}
use Rattle.std.proofs.lemmas.Option.{slice_get_within, get_or_from_slice_get}
use Rattle.std.specs.List.{list_any, AllByRecursion}
use Rattle.doc_sets.specs.Sets.{has}
use Rattle.condition_graph.specs.declared.condition.Condition.{Condition}
use Rattle.condition_graph.specs.declared.graph.ConditionEdge.{ConditionEdge}
use Rattle.condition_graph.specs.Paths.{IsForward}
use Rattle.path_costs.specs.declared.links.Links.{Links}
use Rattle.path_costs.specs.Sums.{reaches}
use Rattle.path_costs.specs.Links.{chosen, IsOut}
use Rattle.path_costs.specs.Few.{AreMarked, IsLeast, AreLeast}
use Rattle.path_costs.proofs.SumLemmas.{goes, reaches-end, reaches-out}
use Rattle.path_costs.proofs.ListLemmas.{slice_get-pushed}
use Rattle.path_costs.proofs.FillLemmas.{goes-parts, or-either, or-left, or-right, and-join}

differ : (b : Bool) → b ≡ true → b ≡ false → ⊥
differ b e f = cc

le-true : (a b : ℕ) → a ≤ b → nat_le a b ≡ true
le-true a b h = grind arith

-- one more element at the end of the first ones
pub take-next : {X : Type 0} (xs : List X) (i : ℕ) (x : X) → slice_get xs i ≡ Some x → take (i + 1) xs ≡ take i xs ++ x ∷ []
take-next xs i x at = take_more xs i x (slice_get_within xs i x at) ∙ ap (λ y. take i xs ++ y ∷ []) (get_or_from_slice_get xs i x x at)

pub map-next : {X Y : Type 0} (f : X → Y) (xs : List X) (i : ℕ) (x : X) → slice_get xs i ≡ Some x → map f (take (i + 1) xs) ≡ map f (take i xs) ++ f x ∷ []
map-next f xs i x at = ap (map f) (take-next xs i x at) ∙ map-append f (take i xs) (x ∷ [])

pub length-push : {X : Type 0} (xs : List X) (x : X) → length (xs ++ x ∷ []) ≡ length xs + 1
length-push [] x = refl
length-push (y ∷ xs) x = let deeper = length-push xs x in omega (arith, deeper)

pub map-whole : {X Y : Type 0} (f : X → Y) (xs : List X) (i : ℕ) → length xs ≤ i → map f (take i xs) ≡ map f xs
map-whole f xs i le = ap (map f) (take_all i xs le)

-- functions that agree on the members give the same list
pub map-same : {Y : Type 0} (f g : ℕ → Y) (xs : List ℕ) → ((d : ℕ) → has xs d ≡ true → f d ≡ g d) → map f xs ≡ map g xs
map-same f g [] same = refl
map-same f g (x ∷ xs) same =
    let here : (x == x) ≡ true = grind arith in
    ap₂ (λ y rest. y ∷ rest) (same x (or-left (x == x) (has xs x) here)) (map-same f g xs (λ d h. same d (or-right (x == d) (has xs d) h)))

pub marks-all : (p : ℕ → Bool) → ((d : ℕ) → p d ≡ true) → (xs : List ℕ) → map (λ d. true) xs ≡ map p xs
marks-all p all xs = map-same (λ d. true) p xs (λ d r. sym (all d))

-- the marks of one more edge
pub marked-more : (meets : Condition → ℕ → Bool) (edges : List ConditionEdge) (ids : List ℕ) (old new : List (Vec Bool Global)) (k : ℕ) (e : ConditionEdge) (met : Vec Bool Global)
    → slice_get edges k ≡ Some e → length old ≡ k → new ≡ old ++ met ∷ [] → met.items ≡ map (meets e.condition) ids
    → AreMarked meets edges ids old k → AreMarked meets edges ids new (k + 1)
marked-more meets edges ids old new k e met at len is are marked v edge less here = cases (v == k) refl
  where
    cases : (b : Bool) → (v == k) ≡ b → (m : Vec Bool Global) × (slice_get new v ≡ Some m) × (m.items ≡ map (meets edge.condition) ids)
    cases true h =
        let same : v ≡ k = grind arith in
        let both : Some e ≡ Some edge = sym at ∙ ap (slice_get edges) (sym same) ∙ here in
        let edge_is : e ≡ edge = cc in
        (met, ap (λ l. slice_get l v) is ∙ slice_get-pushed old met v (same ∙ sym len), are ∙ ap (λ (x : ConditionEdge). map (meets x.condition) ids) edge_is)
    cases false h =
        let below : v < k = grind arith in
        let was = marked v edge below here in
        (was.0, ap (λ l. slice_get l v) is ∙ before old v was.0 was.1, was.2)
      where
        before : (xs : List (Vec Bool Global)) (v : ℕ) (m : Vec Bool Global) → slice_get xs v ≡ Some m → slice_get (xs ++ met ∷ []) v ≡ Some m
        before [] v m e = absurd (cc)
        before (x ∷ xs) zero m e = e
        before (x ∷ xs) (suc v) m e = before xs v m e

-- what stands at a place of a list that a function made
pub map-at : {X Y : Type 0} (f : X → Y) (xs : List X) (i : ℕ) (x : X) → slice_get xs i ≡ Some x → slice_get (map f xs) i ≡ Some (f x)
map-at f [] i x e = absurd (cc)
map-at f (y ∷ xs) zero x e = let same : y ≡ x = cc in ap (λ z. Some (f z)) same
map-at f (y ∷ xs) (suc i) x e = map-at f xs i x e

module _ (meets : Condition → ℕ → Bool) (last : ℕ) (edges : List ConditionEdge) (node d : ℕ) where
  -- the bound so far, while some edges are left
  pub record IsSoFar (bound : ℕ) (left : List ConditionEdge) : Type 0 where
    pub small : bound ≤ 2 ^ 32
    pub ahead : (x : ℕ) → x < 2 ^ 32 → reaches meets last edges node x d ≡ true → (bound ≤ x) ⊎ (list_any (goes meets last edges x d) left ≡ true)
    pub reached : bound < 2 ^ 32 → reaches meets last edges node bound d ≡ true

  pub least-begin : AllByRecursion (IsForward (last + 1)) edges → node < last → (list : List ℕ) → IsOut edges node list → IsSoFar (2 ^ 32) (chosen edges list)
  least-begin forward lt list out = record {
    small = omega arith;
    ahead = λ x small h. inr (ap (list_any (goes meets last edges x d)) out.are ∙ sym (reaches-out meets last edges forward node x d lt) ∙ h);
    reached = λ less. absurd (omega arith);
  }

  -- an edge whose condition the document does not meet
  pub least-over : (bound : ℕ) (e : ConditionEdge) (left : List ConditionEdge) → meets e.condition d ≡ false → IsSoFar bound (e ∷ left) → IsSoFar bound left
  least-over bound e left not_met is = record {
    small = is.small;
    ahead = λ x small h. elim (is.ahead x small h) [ inl a ↦ inl a | inr b ↦ inr (without x b) ];
    reached = is.reached;
  }
    where
      without : (x : ℕ) → (goes meets last edges x d e || list_any (goes meets last edges x d) left) ≡ true → list_any (goes meets last edges x d) left ≡ true
      without x h = elim (or-either _ _ h) [ inl a ↦ absurd (differ (meets e.condition d) (goes-parts meets last edges x d e a).1 not_met) | inr b ↦ b ]

  -- an edge whose condition it meets
  pub least-along : (bound c next : ℕ) (e : ConditionEdge) (left : List ConditionEdge) → ((x : ℕ) → goes meets last edges x d e ≡ true → reaches meets last edges node x d ≡ true)
      → meets e.condition d ≡ true → IsLeast meets last edges e.to d c → next ≡ min bound (e.cost + c) → IsSoFar bound (e ∷ left) → IsSoFar next left
  least-along bound c next e left onward met further is_next is = record {
    small = let s = is.small in omega arith;
    ahead = λ x small h. elim (is.ahead x small h) [ inl a ↦ inl (omega arith) | inr b ↦ past x small (or-either _ _ b) ];
    reached = λ less. cases less (nat_le bound (e.cost + c)) refl;
  }
    where
      farther : (x : ℕ) → x < 2 ^ 32 → goes meets last edges x d e ≡ true → next ≤ x
      farther x small h =
          let parts = goes-parts meets last edges x d e h in
          let k_le = parts.0 in
          let le = further.least (x - e.cost) (omega arith) parts.2 in
          omega arith

      past : (x : ℕ) → x < 2 ^ 32 → (goes meets last edges x d e ≡ true) ⊎ (list_any (goes meets last edges x d) left ≡ true) → (next ≤ x) ⊎ (list_any (goes meets last edges x d) left ≡ true)
      past x small h = elim h [ inl here ↦ inl (farther x small here) | inr there ↦ inr there ]

      cases : next < 2 ^ 32 → (b : Bool) → nat_le bound (e.cost + c) ≡ b → reaches meets last edges node next d ≡ true
      cases less true h =
          let le : bound ≤ e.cost + c = grind arith in
          let same : bound ≡ next = omega arith in
          subst (λ k. reaches meets last edges node k d ≡ true) same (is.reached (omega arith))
      cases less false h =
          let more : e.cost + c < bound = grind arith in
          let same : e.cost + c ≡ next = omega arith in
          let minus : c ≡ e.cost + c - e.cost = omega arith in
          let there : reaches meets last edges e.to (e.cost + c - e.cost) d ≡ true = subst (λ k. reaches meets last edges e.to k d ≡ true) minus (further.reached (omega arith)) in
          subst (λ k. reaches meets last edges node k d ≡ true) same
          (onward (e.cost + c) (and-join _ _ (le-true e.cost (e.cost + c) (omega arith)) (and-join _ _ met there)))

  -- when no edge is left
  pub least-end : (bound : ℕ) → IsSoFar bound [] → IsLeast meets last edges node d bound
  least-end bound is = record {
    small = is.small;
    least = λ x small h. elim (is.ahead x small h) [ inl a ↦ a | inr b ↦ absurd (cc) ];
    reached = is.reached;
  }

-- at the last node
pub least-last : (meets : Condition → ℕ → Bool) (last : ℕ) (edges : List ConditionEdge) (d : ℕ) → IsLeast meets last edges last d 0
least-last meets last edges d = record {
  small = omega arith;
  least = λ x small h. omega arith;
  reached = λ less. reaches-end meets last edges 0 d;
}

-- the costs from one more node on
pub least-more : (meets : Condition → ℕ → Bool) (links : Links) (d : ℕ) (old new : List ℕ) (node cost from : ℕ) → from ≡ node + 1
    → slice_get new node ≡ Some cost → ((v c : ℕ) → node < v → slice_get new v ≡ Some c → slice_get old v ≡ Some c)
    → IsLeast meets links.last links.edges.items node d cost → AreLeast meets links d old from → AreLeast meets links d new node
least-more meets links d old new node cost from next here others is are v c le within at = cases (v == node) refl
  where
    cases : (b : Bool) → (v == node) ≡ b → IsLeast meets links.last links.edges.items v d c
    cases true h =
        let same : v ≡ node = grind arith in
        let both : Some cost ≡ Some c = sym here ∙ ap (slice_get new) (sym same) ∙ at in
        let cost_is : cost ≡ c = cc in
        subst (λ n. IsLeast meets links.last links.edges.items n d c) (sym same) (subst (λ k. IsLeast meets links.last links.edges.items node d k) cost_is is)
    cases false h =
        let above : node < v = grind arith in
        are v c (omega arith) within (others v c above at)
