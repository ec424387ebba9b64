-- The last words of paths, from their spots in order.
use Rattle.std.proofs.Common.{◌≡◌, ℕ, ◌+◌, ◌/◌, ◌%◌, ◌^◌, ◌<◌, ◌≤◌, ◌==◌, nat_le, inl, inr, Bool, true, false, not, ◌||◌, cond, List, [], ◌∷◌, map, filter, eqb, refl, sym, ap, ap₂, ◌∙◌, arith}
use Rattle.std.specs.List.{list_any, list_all}
use Rattle.std.specs.Cmp.{both_ways}
use Rattle.std.proofs.lemmas.Bool.{eqb-true, eq-eqb, le-leb, and_from, or_left, or_right, true≢false}
use Rattle.search_base.specs.declared.document.Place.{Place}
use Rattle.search_base.proofs.Members.{Among, Among-map, Among-mapped, Among-filter, Among-filtered, All-among}
use Rattle.sorted_pages.specs.Entries.{has, AreAbove, IsIncreasing}
use Rattle.postings.specs.Documents.{AreNarrow}
use Rattle.posting_sets.proofs.WalkLemmas.{both_true, either_true}
use Rattle.posting_sets.proofs.OccursLemmas.{list_any-found, list_any-from, has_found, has_from}
use Rattle.path_lengths.specs.Lengths.{is_last}
use Rattle.path_lengths.specs.Measured.{length_key, key_place, length_place, lengths_of}
use Rattle.path_lengths.specs.Lasts.{spot_of, is_taken, goes_on, lasts, spot_place, AreLengthPlaces}

later_than : (a d : ℕ) (xs : List ℕ) → AreAbove a xs → has xs d ≡ true → a < d
later_than a d [] above h = absurd (cc)
later_than a d (x ∷ xs) above h = either_true (eqb x d) (has xs d) h
    (λ here. let same = eqb-true x d here in let more = above.0 in omega arith) (λ there. later_than a d xs above.1 there)

-- ---- one spot more
none_on : (x : ℕ) (xs : List ℕ) → IsIncreasing (x ∷ xs) → goes_on x xs ≡ false → (t : ℕ) → has xs t ≡ true → t / 2 ^ 16 ≡ x / 2 ^ 16 → ⊥
none_on x [] up off t h same = absurd (cc)
none_on x (y ∷ ys) up off t h same =
    let more : x < y = up.0.0 in
    let le : y ≤ t = either_true (eqb y t) (has ys t) h (λ here. let e = eqb-true y t here in omega arith) (λ there. let lt = later_than y t ys up.1.0 there in omega arith) in
    let here : y / 2 ^ 16 ≡ x / 2 ^ 16 = omega arith in
    true≢false (sym (eq-eqb (y / 2 ^ 16) (x / 2 ^ 16) here) ∙ off)

on_is : (x : ℕ) (xs : List ℕ) → IsIncreasing (x ∷ xs) → goes_on x xs ≡ true → (t : ℕ) × (has xs t ≡ true) × (t / 2 ^ 16 ≡ x / 2 ^ 16) × (x < t)
on_is x [] up on = absurd (cc)
on_is x (y ∷ ys) up on = (y, or_left _ _ (eq-eqb y y refl), eqb-true _ _ on, up.0.0)

-- no spot of its path stands behind it
abbrev pub Ends : List ℕ → ℕ → Type 0
Ends spots s = (t : ℕ) → has spots t ≡ true → t / 2 ^ 16 ≡ s / 2 ^ 16 → t ≤ s

pub last_is : (spots : List ℕ) → IsIncreasing spots → (s : ℕ) → has (lasts spots) s ≡ true → (has spots s ≡ true) × Ends spots s
last_is [] up s h = absurd (cc)
last_is (x ∷ xs) up s h = by (goes_on x xs) refl h (λ k. last_is xs up.1 s k)
  where
    later : (has xs s ≡ true) × Ends xs s → (has (x ∷ xs) s ≡ true) × Ends (x ∷ xs) s
    later old = (
      or_right (eqb x s) _ old.0,
      λ t k same. either_true (eqb x t) (has xs t) k
          (λ here. let e = eqb-true x t here in let lt = later_than x s xs up.0 old.0 in omega arith) (λ there. old.1 t there same),
    )

    by : (b : Bool) → goes_on x xs ≡ b → has (cond b (lasts xs) (x ∷ lasts xs)) s ≡ true → (has (lasts xs) s ≡ true → (has xs s ≡ true) × Ends xs s)
        → (has (x ∷ xs) s ≡ true) × Ends (x ∷ xs) s
    by true e h old = later (old h)
    by false e h old = either_true (eqb x s) (has (lasts xs) s) h
        (λ here.
        let same = eqb-true x s here in (
          or_left _ _ here,
          λ t k path. either_true (eqb x t) (has xs t) k
              (λ own. let e = eqb-true x t own in omega arith)
              (λ there. absurd (none_on x xs up e t there (path ∙ ap (λ (n : ℕ). n / 2 ^ 16) (sym same)))),
        ))
        (λ there. later (old there))

pub last_from : (spots : List ℕ) → IsIncreasing spots → (s : ℕ) → has spots s ≡ true → Ends spots s → has (lasts spots) s ≡ true
last_from [] up s h ends = absurd (cc)
last_from (x ∷ xs) up s h ends = by (goes_on x xs) refl (λ k. last_from xs up.1 s k (λ t there same. ends t (or_right (eqb x t) _ there) same))
  where
    by : (b : Bool) → goes_on x xs ≡ b → (has xs s ≡ true → has (lasts xs) s ≡ true) → has (cond b (lasts xs) (x ∷ lasts xs)) s ≡ true
    by true e old = either_true (eqb x s) (has xs s) h
        (λ here.
        let same = eqb-true x s here in
        let on = on_is x xs up e in
        let le = ends on.0 (or_right (eqb x on.0) _ on.1) (on.2 ∙ ap (λ (n : ℕ). n / 2 ^ 16) same) in
        let lt = on.3 in absurd (omega arith))
        (λ there. old there)
    by false e old = either_true (eqb x s) (has xs s) h (λ here. or_left _ _ here) (λ there. or_right (eqb x s) _ (old there))

-- ---- tests
pub any_map : {X Y : Type 0} (f : X → Y) (p : Y → Bool) (xs : List X) → list_any p (map f xs) ≡ list_any (λ x. p (f x)) xs
any_map f p [] = refl
any_map f p (x ∷ xs) = ap (λ b. p (f x) || b) (any_map f p xs)

pub all-from : {X : Type 0} (test : X → Bool) (xs : List X) → ((x : X) → Among xs x → test x ≡ true) → list_all test xs ≡ true
all-from test [] each = refl
all-from test (x ∷ xs) each = and_from (test x) (list_all test xs) (each x (inl refl)) (all-from test xs (λ y there. each y (inr there)))

pub all-each : {X : Type 0} (test : X → Bool) (xs : List X) (x : X) → list_all test xs ≡ true → Among xs x → test x ≡ true
all-each test [] x h there = absurd there
all-each test (y ∷ ys) x h (inl same) = ap test (sym same) ∙ (both_true (test y) (list_all test ys) h).0
all-each test (y ∷ ys) x h (inr later) = all-each test ys x (both_true (test y) (list_all test ys) h).1 later

-- ---- spots of places
path_at : (place : Place) → (place.path.0 < 2 ^ 16) × (place.position < 2 ^ 16) → spot_of place / 2 ^ 16 ≡ place.path.0
path_at place narrow = let low = narrow.1 in omega arith

position_at : (place : Place) → (place.path.0 < 2 ^ 16) × (place.position < 2 ^ 16) → spot_of place % 2 ^ 16 ≡ place.position
position_at place narrow = let low = narrow.1 in omega arith

place_at : (place : Place) → (place.path.0 < 2 ^ 16) × (place.position < 2 ^ 16) → spot_place (spot_of place) ≡ length_place place
place_at place narrow = ap₂ (λ p n. key_place (length_key p (n + 1))) (path_at place narrow) (position_at place narrow)

taken_found : (places : List Place) (s : ℕ) → is_taken places s ≡ true → (place : Place) × Among places place × (spot_of place ≡ s)
taken_found places s h = let at = list_any-found (λ place. spot_of place == s) places h in (at.0, at.1, eqb-true _ _ at.2)

module _ (places : List Place) (spots : List ℕ) (up : IsIncreasing spots) (same : (s : ℕ) → has spots s ≡ is_taken places s) (narrow : AreNarrow places) where
  small : (place : Place) → Among places place → (place.path.0 < 2 ^ 16) × (place.position < 2 ^ 16)
  small place there = All-among (λ (p : Place). (p.path.0 < 2 ^ 16) × (p.position < 2 ^ 16)) places place narrow there

  has_spot : (place : Place) → Among places place → has spots (spot_of place) ≡ true
  has_spot place there = same (spot_of place) ∙ list_any-from (λ p. spot_of p == spot_of place) places place there (eq-eqb _ _ refl)

  -- the last spot of a path is that of its last word
  ends_last : (place : Place) → Among places place → Ends spots (spot_of place) → is_last places place ≡ true
  ends_last place there ends = all-from _ places (λ other at. by other at (other.path.0 == place.path.0) refl)
    where
      by : (other : Place) → Among places other → (b : Bool) → (other.path.0 == place.path.0) ≡ b → (not b || nat_le other.position place.position) ≡ true
      by other at true e =
          let path : other.path.0 ≡ place.path.0 = eqb-true _ _ e in
          let le : spot_of other ≤ spot_of place = ends (spot_of other) (has_spot other at) (path_at other (small other at) ∙ path ∙ sym (path_at place (small place there))) in
          le-leb other.position place.position (omega arith)
      by other at false e = refl

  last_ends : (place : Place) → Among places place → is_last places place ≡ true → Ends spots (spot_of place)
  last_ends place there last t h path =
      let found = taken_found places t (sym (same t) ∙ h) in
      let other = found.0 in
      let own : other.path.0 ≡ place.path.0 =
      sym (path_at other (small other found.1)) ∙ ap (λ (n : ℕ). n / 2 ^ 16) found.2 ∙ path ∙ path_at place (small place there) in
      let le : nat_le other.position place.position ≡ true =
      ap (λ b. not b || nat_le other.position place.position) (sym (eq-eqb _ _ own)) ∙ all-each _ places other last found.1 in
      let low : other.position ≤ place.position = grind arith in
      let at = found.2 in
      omega arith

  pub are_length_places : AreLengthPlaces places (map spot_place (lasts spots))
  are_length_places test = any_map spot_place test (lasts spots) ∙ both_ways _ _ found from
    where
      found : list_any (λ s. test (spot_place s)) (lasts spots) ≡ true → list_any test (lengths_of places) ≡ true
      found h =
          let at = has_found (λ s. test (spot_place s)) (lasts spots) h in
          let last = last_is spots up at.0 at.1 in
          let own = taken_found places at.0 (sym (same at.0) ∙ last.0) in
          let place = own.0 in
          let ends : Ends spots (spot_of place) = λ t k path. (let e = own.2 in let le = last.1 t k (path ∙ ap (λ (n : ℕ). n / 2 ^ 16) e) in omega arith) in
          list_any-from test (lengths_of places) (length_place place)
          (Among-mapped length_place (filter (is_last places) places) place (Among-filtered (is_last places) places place own.1 (ends_last place own.1 ends)))
          (ap test (sym (place_at place (small place own.1)) ∙ ap spot_place own.2) ∙ at.2)

      from : list_any test (lengths_of places) ≡ true → list_any (λ s. test (spot_place s)) (lasts spots) ≡ true
      from h =
          let at = list_any-found test (lengths_of places) h in
          let own = Among-map length_place (filter (is_last places) places) at.0 at.1 in
          let place = own.0 in
          let kept = Among-filter (is_last places) places place own.1 in
          has_from (λ s. test (spot_place s)) (lasts spots) (spot_of place)
          (last_from spots up (spot_of place) (has_spot place kept.0) (last_ends place kept.0 kept.1))
          (ap test (place_at place (small place kept.0) ∙ own.2) ∙ at.2)
