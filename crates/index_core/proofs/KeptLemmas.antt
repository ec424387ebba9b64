-- What is kept of documents that are seen otherwise, and what holds of all that are kept.
use Rattle.std.proofs.Common.{◌≡◌, ℕ, ◌+◌, ◌-◌, ◌≤◌, ◌<◌, ◌⊎◌, inl, inr, min, zero, suc, Bool, true, false, cond, nat_lt, nat_le, List, [], ◌∷◌, ◌++◌, length, map, take, drop, refl, sym, ap, ap₂, ◌∙◌, arith}
use mathlib.Core.Path.{fun_ext}
use Rattle.std.specs.List.{AllByRecursion, position_or_len}
use Rattle.std.proofs.lemmas.Bool.{cond_both}
use Rattle.std.proofs.lemmas.List.{take-map, drop-map, length-map}
use Rattle.search_base.specs.Hits.{numbers}
use Rattle.bucket_sort.specs.Hits.{AreOrdered}
use Rattle.distinct_hits.specs.Kept.{is_new, kept_from, kept}
use Rattle.distinct_hits.specs.Distinct.{distinct_hits, reach}

-- ---- parts of a list

pub all-take : {X : Type 0} (P : X → Type 0) (n : ℕ) (xs : List X) → AllByRecursion P xs → AllByRecursion P (take n xs)
all-take P zero xs h = tt
all-take P (suc n) [] h = tt
all-take P (suc n) (x ∷ xs) h = (h.0, all-take P n xs h.1)

pub all-drop : {X : Type 0} (P : X → Type 0) (n : ℕ) (xs : List X) → AllByRecursion P xs → AllByRecursion P (drop n xs)
all-drop P zero xs h = h
all-drop P (suc n) [] h = tt
all-drop P (suc n) (x ∷ xs) h = all-drop P n xs h.1

pub ordered-take : {X : Type 0} (r : X → X → Bool) (n : ℕ) (xs : List X) → AreOrdered r xs → AreOrdered r (take n xs)
ordered-take r zero xs h = tt
ordered-take r (suc n) [] h = tt
ordered-take r (suc n) (x ∷ xs) h = (all-take (λ y. r x y ≡ true) n xs h.0, ordered-take r n xs h.1)

pub ordered-drop : {X : Type 0} (r : X → X → Bool) (n : ℕ) (xs : List X) → AreOrdered r xs → AreOrdered r (drop n xs)
ordered-drop r zero xs h = h
ordered-drop r (suc n) [] h = tt
ordered-drop r (suc n) (x ∷ xs) h = ordered-drop r n xs h.1

module _ {X : Type 0} (texts : X → List (List ℕ)) where
  all-kept : (P : X → Type 0) (seen : List (List ℕ)) (xs : List X) → AllByRecursion P xs → AllByRecursion P (kept_from texts seen xs)
  all-kept P seen [] h = tt
  all-kept P seen (x ∷ xs) h =
      cond_both (is_new seen (texts x)) (x ∷ kept_from texts (seen ++ texts x) xs) (kept_from texts seen xs) (AllByRecursion P)
      (λ _. (h.0, all-kept P (seen ++ texts x) xs h.1)) (λ _. all-kept P seen xs h.1)

  ordered-kept : (r : X → X → Bool) (seen : List (List ℕ)) (xs : List X) → AreOrdered r xs → AreOrdered r (kept_from texts seen xs)
  ordered-kept r seen [] h = tt
  ordered-kept r seen (x ∷ xs) h =
      cond_both (is_new seen (texts x)) (x ∷ kept_from texts (seen ++ texts x) xs) (kept_from texts seen xs) (AreOrdered r)
      (λ _. (all-kept (λ y. r x y ≡ true) (seen ++ texts x) xs h.0, ordered-kept r (seen ++ texts x) xs h.1)) (λ _. ordered-kept r seen xs h.1)

  -- what holds of all documents holds of the hits among them
  pub all-distinct : (P : X → Type 0) (xs : List X) (offset limit : ℕ) → AllByRecursion P xs → AllByRecursion P (distinct_hits texts xs offset limit)
  all-distinct P xs offset limit h = all-take P limit (drop offset (kept texts xs)) (all-drop P offset (kept texts xs) (all-kept P [] xs h))

  -- and these stand in their order
  pub ordered-distinct : (r : X → X → Bool) (xs : List X) (offset limit : ℕ) → AreOrdered r xs → AreOrdered r (distinct_hits texts xs offset limit)
  ordered-distinct r xs offset limit h = ordered-take r limit (drop offset (kept texts xs)) (ordered-drop r offset (kept texts xs) (ordered-kept r [] xs h))

-- ---- documents that are seen through f

module _ {X Y : Type 0} (f : X → Y) (own : X → List (List ℕ)) (texts : Y → List (List ℕ)) where
  abbrev IsSeen : X → Type 0
  IsSeen x = own x ≡ texts (f x)

  kept-from-seen : (seen : List (List ℕ)) (xs : List X) → AllByRecursion IsSeen xs → map f (kept_from own seen xs) ≡ kept_from texts seen (map f xs)
  kept-from-seen seen [] h = refl
  kept-from-seen seen (x ∷ xs) h =
      by (is_new seen (own x)) (kept-from-seen (seen ++ own x) xs h.1) (kept-from-seen seen xs h.1)
      ∙ ap (λ v. cond (is_new seen v) (f x ∷ kept_from texts (seen ++ v) (map f xs)) (kept_from texts seen (map f xs))) h.0
    where
      by : (b : Bool) → map f (kept_from own (seen ++ own x) xs) ≡ kept_from texts (seen ++ own x) (map f xs) → map f (kept_from own seen xs) ≡ kept_from texts seen (map f xs)
          → map f (cond b (x ∷ kept_from own (seen ++ own x) xs) (kept_from own seen xs)) ≡ cond b (f x ∷ kept_from texts (seen ++ own x) (map f xs)) (kept_from texts seen (map f xs))
      by true p q = ap (λ v. f x ∷ v) p
      by false p q = q

  kept-seen : (xs : List X) → AllByRecursion IsSeen xs → map f (kept own xs) ≡ kept texts (map f xs)
  kept-seen xs h = kept-from-seen [] xs h

  pub distinct-seen : (xs : List X) (offset limit : ℕ) → AllByRecursion IsSeen xs → map f (distinct_hits own xs offset limit) ≡ distinct_hits texts (map f xs) offset limit
  distinct-seen xs offset limit h =
      sym (ap (take limit) (drop-map f offset (kept own xs)) ∙ take-map f limit (drop offset (kept own xs))) ∙ ap (λ v. take limit (drop offset v)) (kept-seen xs h)

  pub reach-seen : (xs : List X) (offset limit : ℕ) → AllByRecursion IsSeen xs → reach own xs offset limit ≡ reach texts (map f xs) offset limit
  reach-seen xs offset limit h =
      ap₂ (λ p n. cond (nat_lt 0 limit) (position_or_len p (numbers 0 n)) 0) (fun_ext enough) (sym (length-map xs f))
    where
      enough : (r : ℕ) → nat_le (offset + limit) (length (kept own (take r xs))) ≡ nat_le (offset + limit) (length (kept texts (take r (map f xs))))
      enough r =
          ap (nat_le (offset + limit))
          (sym (length-map (kept own (take r xs)) f) ∙ ap length (kept-seen (take r xs) (all-take IsSeen r xs h) ∙ ap (kept texts) (sym (take-map f r xs))))

-- ---- a window whose offset is cut at some number at least as great as its end

module _ {X : Type 0} (texts : X → List (List ℕ)) (xs : List X) (offset start end most : ℕ) (is : start ≡ min offset most) (le : end ≤ most) where
  near-or-far : (a b : ℕ) → (a ≤ b) ⊎ (b < a)
  near-or-far a b = grind arith

  pub distinct-cut : distinct_hits texts xs start (end - start) ≡ distinct_hits texts xs offset (end - offset)
  distinct-cut = by (near-or-far offset most)
    where
      by : (offset ≤ most) ⊎ (most < offset) → distinct_hits texts xs start (end - start) ≡ distinct_hits texts xs offset (end - offset)
      by (inl near) = ap (λ n. distinct_hits texts xs n (end - n)) (let e : start ≡ offset = omega arith in e)
      by (inr far) =
          ap (distinct_hits texts xs start) (let e : end - start ≡ 0 = omega arith in e) ∙ sym (ap (distinct_hits texts xs offset) (let e : end - offset ≡ 0 = omega arith in e))

  pub reach-cut : reach texts xs start (end - start) ≡ reach texts xs offset (end - offset)
  reach-cut = by (near-or-far offset most)
    where
      by : (offset ≤ most) ⊎ (most < offset) → reach texts xs start (end - start) ≡ reach texts xs offset (end - offset)
      by (inl near) = ap (λ n. reach texts xs n (end - n)) (let e : start ≡ offset = omega arith in e)
      by (inr far) = ap (reach texts xs start) (let e : end - start ≡ 0 = omega arith in e) ∙ sym (ap (reach texts xs offset) (let e : end - offset ≡ 0 = omega arith in e))
