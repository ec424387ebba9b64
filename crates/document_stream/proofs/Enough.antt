-- As many turns as there are tokens are enough: more of them read the same.
use Rattle.std.proofs.Common.{◌≡◌, ℕ, zero, suc, ◌<◌, ◌≤◌, List, [], ◌∷◌, length, Option, Some, None, option_and_then, refl, sym, ap, ◌∙◌, arith}
use Rattle.json.specs.Token.{Token}
use Rattle.json.specs.Json.{Json, Items, item, Members, member, Parse, parse_map, after_end_array, read_key, items_step, members_step, items, members, value}
use Rattle.json.proofs.Grammar.{left, value_is, read_key-shorter, skip_value-shorter}

and_then_same : {A B : Type 0} (f g : A → Option B) (o : Option A) → ((a : A) → o ≡ Some a → f a ≡ g a) → option_and_then f o ≡ option_and_then g o
and_then_same f g None same = refl
and_then_same f g (Some a) same = same a refl

module _ (depth : ℕ) where
  shorter : (ts r : List Token) (j : Json) → value depth ts ≡ Some (j, r) → length r < length ts
  shorter ts r j e = skip_value-shorter depth ts r (ap left e)

  items_step_same : (more again : Parse Items) (ts : List Token) (o : Option (List Token)) → ((j : Json) (r : List Token) → value depth ts ≡ Some (j, r) → more r ≡ again r)
      → items_step (value depth) more ts o ≡ items_step (value depth) again ts o
  items_step_same more again ts (Some r) same = refl
  items_step_same more again ts None same = and_then_same _ _ (value depth ts) (λ q e. ap (parse_map (item q.0)) (same q.0 q.1 e))

  items-empty : (n : ℕ) → items (value depth) n [] ≡ None
  unfolding items
  items-empty zero = refl
  items-empty (suc n) = ap (option_and_then (λ q. parse_map (item q.0) (items (value depth) n q.1))) (value_is depth [])

  pub items-enough : (n m : ℕ) (ts : List Token) → length ts ≤ n → length ts ≤ m → items (value depth) n ts ≡ items (value depth) m ts
  unfolding items
  items-enough n m [] a b = items-empty n ∙ sym (items-empty m)
  items-enough zero m (t ∷ ts) a b = absurd (omega arith)
  items-enough (suc n) zero (t ∷ ts) a b = absurd (omega arith)
  items-enough (suc n) (suc m) (t ∷ ts) a b =
      items_step_same (items (value depth) n) (items (value depth) m) (t ∷ ts) (after_end_array (t ∷ ts))
      (λ j r e. let less = shorter (t ∷ ts) r j e in items-enough n m r (omega arith) (omega arith))

  members_step_same : (more again : Parse Members) (ts : List Token) (k : Option (List ℕ)) → ((j : Json) (r : List Token) → value depth ts ≡ Some (j, r) → more r ≡ again r)
      → members_step (value depth) more k ts ≡ members_step (value depth) again k ts
  members_step_same more again ts None same = refl
  members_step_same more again ts (Some k) same = and_then_same _ _ (value depth ts) (λ q e. ap (parse_map (member k q.0)) (same q.0 q.1 e))

  members-empty : (n : ℕ) → members (value depth) n [] ≡ None
  unfolding members
  members-empty zero = refl
  members-empty (suc n) = refl

  pub members-enough : (n m : ℕ) (ts : List Token) → length ts ≤ n → length ts ≤ m → members (value depth) n ts ≡ members (value depth) m ts
  unfolding members
  members-enough n m [] a b = members-empty n ∙ sym (members-empty m)
  members-enough zero m (t ∷ ts) a b = absurd (omega arith)
  members-enough (suc n) zero (t ∷ ts) a b = absurd (omega arith)
  members-enough (suc n) (suc m) (t ∷ ts) a b =
      and_then_same _ _ (read_key (t ∷ ts)) (λ q e.
      let fewer = read_key-shorter (t ∷ ts) q.0 q.1 e in
      members_step_same (members (value depth) n) (members (value depth) m) q.1 q.0 (λ j r f.
      let less = shorter q.1 r j f in members-enough n m r (omega arith) (omega arith)))
