-- Where a journal is damaged, no entry is spelled so far.
use Rattle.std.proofs.Common.{◌≡◌, ◌≢◌, ℕ, zero, suc, ◌+◌, ◌-◌, ◌<◌, ◌≤◌, ◌^◌, min, Bool, true, false, cond, leb, eqb, List, [], ◌∷◌, ◌++◌, length, take, drop, Result, Ok, Err, refl, sym, ap, subst, ◌∙◌, append_assoc, arith}
use Rattle.std.proofs.lemmas.Bool.{le-leb, eq-eqb, eqb-true}
use Rattle.std.proofs.lemmas.List.{take_at, drop_at, length-append}
use Rattle.std.proofs.lemmas.Nat.{from_le_bytes-to_le_bytes_4, from_le_bytes-to_le_bytes_8}
use Rattle.std.specs.Int.{w32, w64, from_le_bytes, to_le_bytes}
use Rattle.std.specs.Prelude.{◌&&◌}
use Rattle.change_journal.specs.Format.{Field, payload, bad_field, Walk, shut, size_in, field_size, field_in, walk_field, walk, end_of}
use Rattle.damage_laws.specs.Journal.{Entry, journal_fields, AreEntries}
use Rattle.damage_laws.specs.Agrees.{AgreesThrough}

-- ---- an open gate, and what stands behind it

closed : (gate : ℕ) → gate ≢ 0 → eqb gate 0 ≡ false
closed gate open_ = by (eqb gate 0) refl
  where
    by : (b : Bool) → eqb gate 0 ≡ b → b ≡ false
    by true e = absurd (open_ (eqb-true gate 0 e))
    by false e = refl

abbrev walk_on : ℕ → ℕ → List ℕ → ℕ → Walk
walk_on at n r size = walk (12 + size) (at + 1) (n + 1) r

open_walk : (at n gate : ℕ) (r : List ℕ) → gate ≢ 0 → walk 0 at n (gate ∷ r) ≡ walk_field at (field_in n r) (walk_on at n r)
unfolding walk
open_walk at n gate r is = rw (closed gate is) refl

-- the number and the payload that are spelled are read
field_read : (n : ℕ) (whole p : List ℕ) → 12 + length p ≤ length whole → from_le_bytes w64 (take 8 whole) ≡ n → from_le_bytes w32 (take 4 (drop 8 whole)) ≡ length p → take (length p) (drop 12 whole) ≡ p
    → field_in n whole ≡ payload p
unfolding field_in field_size size_in
field_read n whole p long number size taken =
    rw (le-leb 8 (length whole) (omega (arith, long)), eq-eqb (from_le_bytes w64 (take 8 whole)) n number, size, le-leb 12 (length whole) (omega (arith, long)), le-leb (12 + length p) (length whole) long, taken) refl

number_bytes : ℕ → List ℕ
number_bytes n = to_le_bytes w64 n

number_size : (n : ℕ) → length (number_bytes n) ≡ 8
unfolding number_bytes
number_size n = refl

number_back : (n : ℕ) → n < 2 ^ 64 → from_le_bytes w64 (number_bytes n) ≡ n
unfolding number_bytes
number_back n lt = from_le_bytes-to_le_bytes_8 n lt

size_bytes : ℕ → List ℕ
size_bytes n = to_le_bytes w32 n

size_size : (n : ℕ) → length (size_bytes n) ≡ 4
unfolding size_bytes
size_size n = refl

size_back : (n : ℕ) → n < 2 ^ 32 → from_le_bytes w32 (size_bytes n) ≡ n
unfolding size_bytes
size_back n lt = from_le_bytes-to_le_bytes_4 n lt

field_again : (n : ℕ) (p rest : List ℕ) → n < 2 ^ 64 → length p < 2 ^ 32 → field_in n (number_bytes n ++ ((size_bytes (length p) ++ p) ++ rest)) ≡ payload p
field_again n p rest few short =
    let num = number_bytes n in
    let len = size_bytes (length p) in
    let whole : List ℕ = num ++ ((len ++ p) ++ rest) in
    let more : (len ++ p) ++ rest ≡ len ++ (p ++ rest) = append_assoc len p rest in
    let first : take 8 whole ≡ num = take_at num ((len ++ p) ++ rest) 8 (number_size n) in
    let behind : drop 8 whole ≡ (len ++ p) ++ rest = drop_at num ((len ++ p) ++ rest) 8 (number_size n) in
    let second : take 4 (drop 8 whole) ≡ len = ap (take 4) (behind ∙ more) ∙ take_at len (p ++ rest) 4 (size_size (length p)) in
    let front : whole ≡ (num ++ len) ++ (p ++ rest) = ap (λ (t : List ℕ). num ++ t) more ∙ sym (append_assoc num len (p ++ rest)) in
    let twelve : length (num ++ len) ≡ 12 = omega (arith, length-append num len, number_size n, size_size (length p)) in
    let third : drop 12 whole ≡ p ++ rest = ap (drop 12) front ∙ drop_at (num ++ len) (p ++ rest) 12 twelve in
    let size : length whole ≡ 12 + (length p + length rest) = ap length front ∙ (omega (arith, length-append (num ++ len) (p ++ rest), length-append p rest, twelve)) in
    field_read n whole p (omega (arith, size)) (ap (from_le_bytes w64) first ∙ number_back n few) (ap (from_le_bytes w32) second ∙ size_back (length p) short)
    (ap (take (length p)) third ∙ take_at p rest (length p) refl)

-- ---- places

skip : (front : List ℕ) (at n : ℕ) (rest : List ℕ) → walk (length front) at n (front ++ rest) ≡ walk 0 (at + length front) n rest
unfolding walk
skip [] at n rest = let same : at ≡ at + 0 = omega arith in ap (λ k. walk 0 k n rest) same
skip (x ∷ front) at n rest = let same : at + 1 + length front ≡ at + suc (length front) = omega arith in skip front (at + 1) n rest ∙ ap (λ k. walk 0 k n rest) same

err_is : (a b : ℕ) (r : Result ℕ ℕ) → r ≡ Err a → r ≡ Err b → a ≡ b
err_is a b r d e = cc

no_err : (a b : ℕ) (r : Result ℕ ℕ) → r ≡ Ok a → r ≡ Err b → ⊥
no_err a b r d e = absurd cc

-- damage behind a gate, by the field that stands there
field_place : (at n place : ℕ) (r : List ℕ) (f : Field) → ((size : ℕ) → end_of (walk_on at n r size) ≡ Err place → at + 1 + min (12 + size) (length r) ≤ place) → end_of (walk_field at f (walk_on at n r)) ≡ Err place → at ≤ place
unfolding walk_field
field_place at n place r (payload bytes) later e = let more = later (length bytes) e in omega (arith, more)
field_place at n place r (bad_field k) later e = let same : at + k ≡ place = err_is (at + k) place (Err (at + k)) refl e in omega (arith, same)

place_from : (skip at n : ℕ) (xs : List ℕ) (place : ℕ) → end_of (walk skip at n xs) ≡ Err place → at + min skip (length xs) ≤ place
unfolding walk
place_from skip at n [] place e = let same : at ≡ place = err_is at place (Err at) refl e in omega (arith, same)
place_from zero at n (gate ∷ rest) place e =
    let none : at ≤ place = by (λ size. place_from (12 + size) (at + 1) (n + 1) rest place) (eqb gate 0) e in omega (arith, none)
  where
    by : ((size : ℕ) → end_of (walk_on at n rest size) ≡ Err place → at + 1 + min (12 + size) (length rest) ≤ place) → (b : Bool) → end_of (cond b (shut at) (walk_field at (field_in n rest) (walk_on at n rest))) ≡ Err place → at ≤ place
    by later true e = absurd (no_err at place (Ok at) refl e)
    by later false e = field_place at n place rest (field_in n rest) later e
place_from (suc skip) at n (x ∷ xs) place e = let more = place_from skip (at + 1) n xs place e in omega (arith, more)

-- it stands behind the gate
behind_gate : (at n place : ℕ) (r : List ℕ) → end_of (walk_field at (field_in n r) (walk_on at n r)) ≡ Err place → at + 1 ≤ place
unfolding walk_field field_in field_size
behind_gate at n place r e = by (leb 8 (length r) && eqb (from_le_bytes w64 (take 8 r)) n) (leb 12 (length r) && leb (12 + size_in r) (length r)) e
  where
    by : (b c : Bool) → end_of (walk_field at (cond b (cond c (payload (take (size_in r) (drop 12 r))) (bad_field 9)) (bad_field 1)) (walk_on at n r)) ≡ Err place → at + 1 ≤ place
    by true true e = let more = place_from (12 + length (take (size_in r) (drop 12 r))) (at + 1) (n + 1) r place e in omega (arith, more)
    by true false e = let same : at + 9 ≡ place = err_is (at + 9) place (Err (at + 9)) refl e in omega (arith, same)
    by false c e = let same : at + 1 ≡ place = err_is (at + 1) place (Err (at + 1)) refl e in omega (arith, same)

-- and behind the number, where that is the one that is due
behind_number : (at n place : ℕ) (r : List ℕ) → 8 ≤ length r → from_le_bytes w64 (take 8 r) ≡ n → end_of (walk_field at (field_in n r) (walk_on at n r)) ≡ Err place → at + 9 ≤ place
unfolding walk_field field_in field_size
behind_number at n place r long number e = by (leb 12 (length r) && leb (12 + size_in r) (length r)) (rw (le-leb 8 (length r) long, eq-eqb (from_le_bytes w64 (take 8 r)) n number) at e)
  where
    by : (c : Bool) → end_of (walk_field at (cond c (payload (take (size_in r) (drop 12 r))) (bad_field 9)) (walk_on at n r)) ≡ Err place → at + 9 ≤ place
    by true e = let more = place_from (12 + length (take (size_in r) (drop 12 r))) (at + 1) (n + 1) r place e in omega (arith, more)
    by false e = let same : at + 9 ≡ place = err_is (at + 9) place (Err (at + 9)) refl e in omega (arith, same)

-- a whole record is passed
past_record : (at n place : ℕ) (front p rest : List ℕ) → field_in n (front ++ rest) ≡ payload p → length front ≡ 12 + length p
    → end_of (walk_field at (field_in n (front ++ rest)) (walk_on at n (front ++ rest))) ≡ Err place → end_of (walk 0 (at + 13 + length p) (n + 1) rest) ≡ Err place
unfolding walk_field
past_record at n place front p rest is size e =
    let here : end_of (walk_field at (payload p) (walk_on at n (front ++ rest))) ≡ Err place = subst (λ f. end_of (walk_field at f (walk_on at n (front ++ rest))) ≡ Err place) is e in
    let same : at + 1 + length front ≡ at + 13 + length p = omega (arith, size) in
    let passed : walk (12 + length p) (at + 1) (n + 1) (front ++ rest) ≡ walk 0 (at + 13 + length p) (n + 1) rest =
    ap (λ k. walk k (at + 1) (n + 1) (front ++ rest)) (sym size) ∙ skip front (at + 1) (n + 1) rest ∙ ap (λ k. walk 0 k (n + 1) rest) same in
    sym (ap end_of passed) ∙ here

-- ---- the whole

pub no_entry_so_far : (at n place : ℕ) (bytes : List ℕ) (entries : List Entry) (behind : List ℕ) → end_of (walk 0 at n bytes) ≡ Err place
    → AreEntries entries → n + length entries < 2 ^ 64 → AgreesThrough (place - at) (journal_fields n entries behind) bytes → ⊥
unfolding walk number_bytes size_bytes
no_entry_so_far at n place bytes [] behind fails are few agrees =
    let e : end_of (walk 0 at n (0 ∷ (behind ++ agrees.0))) ≡ Err place = sym (ap (λ xs. end_of (walk 0 at n xs)) agrees.1) ∙ fails in
    no_err at place (end_of (walk 0 at n (0 ∷ (behind ++ agrees.0)))) refl e
no_entry_so_far at n place bytes (e ∷ es) behind fails are few agrees =
    let p = e.payload in
    let r = agrees.0 in
    let walked : end_of (walk_field at (field_in n r) (walk_on at n r)) ≡ Err place =
    sym (ap (λ xs. end_of (walk 0 at n xs)) agrees.1 ∙ ap end_of (open_walk at n e.gate r are.0)) ∙ fails in
    let gate_passed = behind_gate at n place r walked in
    let numbered = agrees.2 (omega (arith, gate_passed)) in
    let s = numbered.0 in
    let number_is : r ≡ number_bytes n ++ s = numbered.1 in
    let small : n < 2 ^ 64 = omega (arith, few) in
    let long : 8 ≤ length r = omega (arith, ap length number_is, length-append (number_bytes n) s, number_size n) in
    let read : from_le_bytes w64 (take 8 r) ≡ n = ap (λ xs. from_le_bytes w64 (take 8 xs)) number_is ∙ ap (from_le_bytes w64) (take_at (number_bytes n) s 8 (number_size n)) ∙ number_back n small in
    let number_passed = behind_number at n place r long read walked in
    let stored = numbered.2 (omega (arith, number_passed, number_size n)) in
    let t = stored.0 in
    let payload_is : s ≡ (size_bytes (length p) ++ p) ++ t = stored.1 in
    let front : List ℕ = number_bytes n ++ (size_bytes (length p) ++ p) in
    let whole : r ≡ number_bytes n ++ ((size_bytes (length p) ++ p) ++ t) = number_is ∙ ap (λ (xs : List ℕ). number_bytes n ++ xs) payload_is in
    let parts : r ≡ front ++ t = whole ∙ sym (append_assoc (number_bytes n) (size_bytes (length p) ++ p) t) in
    let field : field_in n (front ++ t) ≡ payload p = ap (field_in n) (sym parts ∙ whole) ∙ field_again n p t small are.1 in
    let front_size : length front ≡ 12 + length p =
    omega (arith, length-append (number_bytes n) (size_bytes (length p) ++ p), length-append (size_bytes (length p)) p, number_size n, size_size (length p)) in
    let later : end_of (walk 0 (at + 13 + length p) (n + 1) t) ≡ Err place =
    past_record at n place front p t field front_size (subst (λ xs. end_of (walk_field at (field_in n xs) (walk_on at n xs)) ≡ Err place) parts walked) in
    let passed = place_from 0 (at + 13 + length p) (n + 1) t place later in
    let piece_size : length (size_bytes (length p) ++ p) ≡ 4 + length p = omega (arith, length-append (size_bytes (length p)) p, size_size (length p)) in
    let behind_it = stored.2 (omega (arith, passed, piece_size, number_size n)) in
    let there : place - at - 1 - length (number_bytes n) - length (size_bytes (length p) ++ p) ≡ place - (at + 13 + length p) = omega (arith, passed, piece_size, number_size n) in
    no_entry_so_far (at + 13 + length p) (n + 1) place t es behind later are.2 (omega (arith, few)) (subst (λ k. AgreesThrough k (journal_fields (n + 1) es behind) t) there behind_it)
