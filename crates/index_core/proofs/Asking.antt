-- Documents that are asked for one after the other, each with one step at most.
use Rattle.std.proofs.Common.{◌≡◌, ℕ, ◌+◌, ◌≤◌, List, [], ◌∷◌, length, Result, Ok, Err, sym, ap, ◌∙◌, arith}
use Rattle.std.specs.Prelude.{OnOk, OnErr}
use Rattle.std.proofs.lemmas.List.{length-append, length-take}
use Rattle.distinct_hits.specs.Distinct.{reach, taken, AsksFor, AsksForSome}

module _ {S : Type 0} (Asks : S → ℕ → S → Type 0) (name count : S → ℕ) (step : (b : S) (d : ℕ) (a : S) → Asks b d a → (name a ≡ name b) × (count a ≤ count b + 1)) where
  -- the counter is the same, and takes a step a document at most
  pub asks-few : (b : S) (ids : List ℕ) (a : S) → AsksFor Asks b ids a → (name a ≡ name b) × (count a ≤ count b + length ids)
  asks-few b [] a is = (ap name (sym is), (let e = ap count is in omega (arith, e)))
  asks-few b (d ∷ ids) a (next, first, later) =
      let one = step b d next first in
      let rest = asks-few next ids a later in
      (rest.0 ∙ one.0, (let l = one.1 in let m = rest.1 in omega (arith, l, m)))

  pub some-few : (b : S) (all : List ℕ) (a : S) → AsksForSome Asks b all a → (name a ≡ name b) × (count a ≤ count b + length all)
  some-few b all a some =
      let few = asks-few b some.gained a some.asks in
      (few.0, (let l = few.1 in let m = ap length some.parts ∙ length-append some.gained some.others in omega (arith, l, m)))

  -- whether all of them were asked for or not
  pub either-few : {T E : Type 0} (r : Result T E) (b : S) (ids : List ℕ) (a : S) → OnOk r (AsksFor Asks b ids a) → OnErr r (AsksForSome Asks b ids a)
      → (name a ≡ name b) × (count a ≤ count b + length ids)
  either-few (Ok x) b ids a all some = asks-few b ids a all
  either-few (Err e) b ids a all some = some-few b ids a some

-- the same in the order in which they are known
pub few-known : {S T E : Type 0} (before after : S) (Asks : S → ℕ → S → Type 0) (ids : List ℕ) (r : Result T E) → OnOk r (AsksFor Asks before ids after) → OnErr r (AsksForSome Asks before ids after)
    → (name count : S → ℕ) → ((b : S) (d : ℕ) (a : S) → Asks b d a → (name a ≡ name b) × (count a ≤ count b + 1)) → (name after ≡ name before) × (count after ≤ count before + length ids)
few-known before after Asks ids r all some name count step = either-few Asks name count step r before ids after all some

pub taken-few : {A : Type 0} (texts : A → List (List ℕ)) (order : List A) (offset limit : ℕ) → length (taken texts order offset limit) ≤ reach texts order offset limit
taken-few texts order offset limit = (let l = length-take (reach texts order offset limit) order in omega (arith, l))
