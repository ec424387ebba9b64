-- The hits of a search: who stands before whom, and the slice that is asked for. Nothing is sorted.
use Rattle.std.specs.Prelude.{ℕ, zero, suc, ◌==◌, Bool, true, false, nat_lt, List, [], ◌∷◌, length, filter, flat_map, if◌then◌else◌}
use Rattle.search_base.specs.declared.cost_key.CostKey.{CostKey}

-- n numbers from the first on
abbrev pub numbers : ℕ → ℕ → List ℕ
numbers first zero = []
numbers first (suc n) = first ∷ numbers (suc first) n

-- Whether a document with these costs stands before another: the first entries that are not the same decide, and where
-- all are the same, whether its internal id is the smaller one. (All costs of one search are equally many.)
abbrev pub costs_before : {K : Type 0} → (K → K → Bool) → List K → List K → Bool → Bool
costs_before before [] [] smaller = smaller
costs_before before [] (y ∷ ys) smaller = true
costs_before before (x ∷ xs) [] smaller = false
costs_before before (x ∷ xs) (y ∷ ys) smaller = if before x y then true else if before y x then false else costs_before before xs ys smaller

-- documents of any kind, each with its costs and its internal id
module _ {K X : Type 0} (before : K → K → Bool) (costs : X → List K) (id : X → ℕ) where
  abbrev pub stands_before : X → X → Bool
  stands_before a b = costs_before before (costs a) (costs b) (nat_lt (id a) (id b))

  -- how many of them stand before one
  abbrev pub place_among : List X → X → ℕ
  place_among all m = length (filter (λ other. stands_before other m) all)

  -- the k-th hit, from 0: the one before which exactly k stand
  abbrev pub hit_at : List X → ℕ → List X
  hit_at all k = filter (λ m. place_among all m == k) all

  -- the hits from `offset` on, of which there are `limit` at most, in their order
  abbrev pub hits_of : List X → ℕ → ℕ → List X
  hits_of all offset limit = flat_map (hit_at all) (numbers offset limit)

-- a document that matches: its costs, one entry a rule, and its internal id
pub record Match : Type 0 where
  pub costs : List CostKey
  pub id : ℕ
