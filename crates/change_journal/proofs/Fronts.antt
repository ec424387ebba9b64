-- What the first bytes of a disk and its length say, and what a read of a part gives.
use Rattle.std.proofs.Common.{◌≡◌, ℕ, ◌+◌, ◌-◌, ◌<◌, ◌≤◌, min, Bool, true, cond, List, length, get_or, take, drop, refl, sym, ◌∙◌, ap, arith, length-take, length-drop}
use Rattle.std.specs.Prelude.{Some, None, nat_le, nat_lt, nat_eq, bytes_eq, codes}
use Rattle.std.specs.Int.{w64, from_le_bytes}
use Rattle.std.proofs.lemmas.List.{get_or-take, get_or-drop, take-take, take_min}
use Rattle.std.proofs.lemmas.Bool.Decides.{nat_tests}
use Rattle.outside_io.specs.Disks.{Gives}
use Rattle.change_journal.specs.Format.{Look, closed, bad, opened, look, look_gate, look_name, look_generation, look_length, generation_in, length_in, found_at}
use Rattle.change_journal.specs.Opens.{look_in}
use Rattle.change_journal.proofs.Walks.{part_same}

module _ (xs : List ℕ) where
  abbrev hs : List ℕ
  hs = take 24 xs

  abbrev n : ℕ
  n = length xs

  same : take 24 hs ≡ take 24 xs
  same = take-take 24 24 xs (omega arith)

  gate_is : get_or hs 0 0 ≡ get_or xs 0 0
  gate_is = get_or-take 24 xs 0 0 (omega arith)

  name_is : take 7 (drop 1 hs) ≡ take 7 (drop 1 xs)
  name_is = part_same 1 7 24 hs xs (omega arith) same

  generation_is : generation_in hs ≡ generation_in xs
  unfolding generation_in
  generation_is = ap (λ (ys : List ℕ). from_le_bytes w64 ys) (part_same 8 8 24 hs xs (omega arith) same)

  length_is : length_in hs ≡ length_in xs
  unfolding length_in
  length_is = ap (λ (ys : List ℕ). from_le_bytes w64 ys) (part_same 16 8 24 hs xs (omega arith) same)

  long_is : nat_le 24 (length hs) ≡ nat_le 24 n
  long_is = let long : length hs ≡ min 24 n = length-take 24 xs in grind (arith, nat_tests, long)

  by_length : ℕ → ℕ → Look
  by_length g l = cond (nat_le (25 + l) n) (opened g l) (bad 16)

  by_generation : ℕ → ℕ → Look
  by_generation g l = cond (nat_eq g 0) (bad 8) (by_length g l)

  by_name : List ℕ → ℕ → ℕ → Look
  by_name name g l = cond (bytes_eq name (codes "RANKIDX")) (by_generation g l) (bad 1)

  by_gate : ℕ → List ℕ → ℕ → ℕ → Look
  by_gate b name g l = cond (nat_eq b 0) closed (by_name name g l)

  by_parts : Bool → ℕ → List ℕ → ℕ → ℕ → Look
  by_parts long b name g l = cond long (by_gate b name g l) closed

  whole : look xs ≡ by_parts (nat_le 24 n) (get_or xs 0 0) (take 7 (drop 1 xs)) (generation_in xs) (length_in xs)
  unfolding look look_gate look_name look_generation look_length by_parts by_gate by_name by_generation generation_in by_length length_in
  whole = refl

  -- the header is enough
  pub front_look : look_in (length xs) (take 24 xs) ≡ look xs
  unfolding by_parts by_gate by_name generation_in by_generation length_in by_length
  front_look =
      ap (λ (t : Bool). by_parts t (get_or hs 0 0) (take 7 (drop 1 hs)) (generation_in hs) (length_in hs)) long_is
      ∙ ap (λ (b : ℕ). by_parts (nat_le 24 n) b (take 7 (drop 1 hs)) (generation_in hs) (length_in hs)) gate_is
      ∙ ap (λ (l : List ℕ). by_parts (nat_le 24 n) (get_or xs 0 0) l (generation_in hs) (length_in hs)) name_is
      ∙ ap (λ (g : ℕ). by_parts (nat_le 24 n) (get_or xs 0 0) (take 7 (drop 1 xs)) g (length_in hs)) generation_is
      ∙ ap (λ (l : ℕ). by_parts (nat_le 24 n) (get_or xs 0 0) (take 7 (drop 1 xs)) (generation_in xs) l) length_is
      ∙ sym whole

pub as_read : (xs header : List ℕ) (n : ℕ) (v : Look) → header ≡ take 24 xs → n ≡ length xs → v ≡ look_in n header → look xs ≡ v
as_read xs header n v is long e = sym (e ∙ ap (λ (l : List ℕ). look_in n l) is ∙ ap (λ (k : ℕ). look_in k (take 24 xs)) long ∙ front_look xs)

found_in : (xs ys : List ℕ) (i j : ℕ) → i < length xs → j < length ys → get_or xs i 0 ≡ get_or ys j 0 → found_at xs i ≡ found_at ys j
found_in xs ys i j lt_i lt_j e =
    let a : nat_lt i (length xs) ≡ true = grind (arith, nat_tests) in
    let b : nat_lt j (length ys) ≡ true = grind (arith, nat_tests) in
    ap (λ (t : Bool). cond t (Some (get_or xs i 0)) None) a ∙ ap (λ (x : ℕ). Some x) e ∙ sym (ap (λ (t : Bool). cond t (Some (get_or ys j 0)) None) b)

pub found_front : (xs header : List ℕ) (place : ℕ) → header ≡ take 24 xs → 24 ≤ length header → place < 24 → found_at header place ≡ found_at xs place
found_front xs header place is long lt =
    let at_most : length header ≤ length xs = omega (arith, ap (λ (l : List ℕ). length l) is, length-take 24 xs) in
    found_in header xs place place (omega arith) (omega (arith, at_most)) (ap (λ (l : List ℕ). get_or l place 0) is ∙ get_or-take 24 xs place 0 lt)

pub found_behind : (xs : List ℕ) (start place : ℕ) → start ≤ place → found_at (drop start xs) (place - start) ≡ found_at xs place
found_behind xs start place le =
    let k = place - start in
    let sum : start + k ≡ place = omega arith in
    let tests : nat_lt k (length (drop start xs)) ≡ nat_lt place (length xs) = let long : length (drop start xs) ≡ length xs - start = length-drop start xs in grind (arith, nat_tests, long, sum) in
    let byte : get_or (drop start xs) k 0 ≡ get_or xs place 0 = get_or-drop start xs k 0 ∙ ap (λ (i : ℕ). get_or xs i 0) sum in
    ap (λ (t : Bool). cond t (Some (get_or (drop start xs) k 0)) None) tests ∙ ap (λ (x : ℕ). cond (nat_lt place (length xs)) (Some x) None) byte

-- what a read leaves at the front of a slice
pub given_part : (xs into : List ℕ) (at room n : ℕ) → Gives xs at room n into → take n into ≡ take room (drop at xs)
given_part xs into at room n gives =
    let most : n ≡ min room (length (drop at xs)) = gives.count ∙ ap (λ (k : ℕ). min room k) (sym (length-drop at xs)) in
    gives.bytes ∙ ap (λ (k : ℕ). take k (drop at xs)) most ∙ take_min room (drop at xs)
