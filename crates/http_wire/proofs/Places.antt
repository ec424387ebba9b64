-- Where a head stands does not change with what follows it.
use Rattle.std.proofs.Common.{◌≡◌, ℕ, ◌+◌, ◌-◌, ◌<◌, ◌≤◌, List, ◌++◌, length, drop, get_or, true, sym, ◌∙◌, arith, inl, inr}
use Rattle.std.proofs.lemmas.Grind.{common_steps}
use Rattle.std.proofs.lemmas.List.{get_or-drop}
use Rattle.http_wire.specs.Head.{is_end_at, AreEnds, Starts, closes_at, HasNoEmptyLine, IsHeadAt, IsTooLong}

-- the first n bytes of two texts are the same
pub record Agree (a b : List ℕ) (n : ℕ) : Type 0 where
  pub each : (k : ℕ) → k < n → get_or a k 0 ≡ get_or b k 0

pub is_end-agree : (a b : List ℕ) (n k : ℕ) → Agree a b n → k + 1 < n → is_end_at a k ≡ is_end_at b k
unfolding is_end_at
is_end-agree a b n k same h =
    let lt : k < n = omega arith in
    rw (same.each k lt, same.each (k + 1) h)

pub closes-agree : (a b : List ℕ) (n k : ℕ) → Agree a b n → k ≤ n → 0 < n → closes_at a k ≡ closes_at b k
unfolding closes_at
closes-agree a b n k same h some =
    let l1 : k - 1 < n = omega arith in
    let l2 : k - 2 < n = omega arith in
    let l3 : k - 3 < n = omega arith in
    rw (same.each (k - 1) l1, same.each (k - 2) l2, same.each (k - 3) l3)

-- an empty line has two bytes at least
pub closes-least : (a : List ℕ) (n : ℕ) → closes_at a n ≡ true → 2 ≤ n
unfolding closes_at
closes-least a n h = grind (arith, common_steps)

pub agree-drop : (a b : List ℕ) (s n : ℕ) → Agree a b (s + n) → Agree (drop s a) (drop s b) n
agree-drop a b s n same = record {
  each = λ k lt. let h : s + k < s + n = omega arith in rw (get_or-drop s a k 0, get_or-drop s b k 0) (same.each (s + k) h);
}

pub ends-agree : (a b : List ℕ) (n s : ℕ) → Agree a b n → s < n → AreEnds a s → AreEnds b s
ends-agree a b n s same h ends = record {
  each = λ k lt. let h1 : k + 1 < n = omega arith in sym (is_end-agree a b n k same h1) ∙ ends.each k lt;
}

pub starts-agree : (a b : List ℕ) (n s : ℕ) → Agree a b n → s + 1 < n → Starts a s → Starts b s
starts-agree a b n s same h starts =
    let lt : s < n = omega arith in
    record {
      before = ends-agree a b n s same lt starts.before;
      other = sym (is_end-agree a b n s same h) ∙ starts.other;
    }

pub none-agree : (a b : List ℕ) (n k : ℕ) → Agree a b n → 0 < n → k ≤ n + 1 → HasNoEmptyLine a k → HasNoEmptyLine b k
none-agree a b n k same some h none = record {
  each = λ j lt. let le : j ≤ n = omega arith in sym (closes-agree a b n j same le some) ∙ none.each j lt;
}

-- a head stands in any text that has the same bytes there
pub head-agree : (a b : List ℕ) (s n : ℕ) → Agree a b (s + n) → IsHeadAt a s n → IsHeadAt b s n
head-agree a b s n same head =
    let two : 2 ≤ n = closes-least (drop s a) n head.closes in
    let more : s + 1 < s + n = omega arith in
    let some : 0 < n = omega arith in
    let le : n ≤ n = omega arith in
    let up : n ≤ n + 1 = omega arith in
    let tail : Agree (drop s a) (drop s b) n = agree-drop a b s n same in
    record {
      starts = starts-agree a b (s + n) s same more head.starts;
      few = head.few;
      closes = sym (closes-agree (drop s a) (drop s b) n n tail le some) ∙ head.closes;
      first = none-agree (drop s a) (drop s b) n n tail some up head.first;
      fits = head.fits;
    }

-- a text and what follows it
pub agree-append : (a more : List ℕ) (n : ℕ) → n ≤ length a → Agree a (a ++ more) n
agree-append a more n h = record { each = λ k lt. let l : k < length a = omega arith in grind (arith, common_steps) }

pub is_end-append : (a more : List ℕ) (k : ℕ) → is_end_at a k ≡ true → is_end_at (a ++ more) k ≡ true
unfolding is_end_at
is_end-append a more k h = grind (arith, common_steps)

pub long-append : (a more : List ℕ) → IsTooLong a → IsTooLong (a ++ more)
long-append a more (inl ends) = inl (record { each = λ k lt. is_end-append a more k (ends.each k lt) })
long-append a more (inr long) =
    let same : Agree a (a ++ more) (long.start + 16384) = agree-append a more (long.start + 16384) long.many in
    let lt : long.start + 1 < long.start + 16384 = omega arith in
    let some : 0 < 16384 = omega arith in
    let up : 16385 ≤ 16384 + 1 = omega arith in
    inr (record {
      start = long.start;
      starts = starts-agree a (a ++ more) (long.start + 16384) long.start same lt long.starts;
      few = long.few;
      none = none-agree (drop long.start a) (drop long.start (a ++ more)) 16384 16385 (agree-drop a (a ++ more) long.start 16384 same) some up long.none;
      many = grind (arith, common_steps);
    })
