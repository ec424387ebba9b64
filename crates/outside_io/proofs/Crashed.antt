-- A crash content of a disk in memory, call by call.
use Rattle.std.proofs.Common.{◌≡◌, ⊎_elim, ℕ, zero, suc, ◌+◌, ◌-◌, ◌<◌, ◌≤◌, Bool, true, false, List, [], ◌∷◌, ◌++◌, length, get_or, take, drop, refl, sym, subst, ◌∙◌, ap, arith, min, max, length-append, length-take, length-drop}
use Rattle.std.proofs.lemmas.List.{take_all, drop_all, get_or-take, get_or-drop, get_or_append_left, get_or-append_right}
use Rattle.std.proofs.lemmas.Bool.{cases_lt}
use Rattle.outside_io.specs.Disks.{Contents, fresh, replaced, settled, IsLeft}
use Rattle.outside_io.specs.MemoryDisk.{Kept, wrote, shortened_to, synced, step, run, crashed}

module _ (at : ℕ) (piece xs : List ℕ) (within : at ≤ length xs) where
  front_size : length (take at xs) ≡ at
  front_size = omega (arith, length-take at xs)

  pub length-replaced : length (replaced at piece xs) ≡ max (length xs) (at + length piece)
  length-replaced = omega (arith, front_size, length-append (take at xs) (piece ++ drop (at + length piece) xs), length-append piece (drop (at + length piece) xs), length-drop (at + length piece) xs)

  pub replaced_before : (k : ℕ) → k < at → get_or (replaced at piece xs) k 0 ≡ get_or xs k 0
  replaced_before k lt = get_or_append_left (take at xs) (piece ++ drop (at + length piece) xs) 0 k (omega (arith, front_size)) ∙ get_or-take at xs k 0 lt

  pub replaced_after : (k : ℕ) → at + length piece ≤ k → get_or (replaced at piece xs) k 0 ≡ get_or xs k 0
  replaced_after k le =
      get_or-append_right (take at xs) (piece ++ drop (at + length piece) xs) at k 0 front_size (omega arith)
      ∙ get_or-append_right piece (drop (at + length piece) xs) (length piece) (k - at) 0 refl (omega arith)
      ∙ get_or-drop (at + length piece) xs (k - at - length piece) 0
      ∙ (let same : at + length piece + (k - at - length piece) ≡ k = omega arith in ap (λ (i : ℕ). get_or xs i 0) same)

pub left_fresh : (xs : List ℕ) → IsLeft (fresh xs) xs
left_fresh xs = record { no_shorter = omega arith; no_longer = omega arith; kept = λ k lt free. refl }

pub left_sync : (s : Contents) → IsLeft (step synced s) s.now
left_sync s = left_fresh s.now

left_write : (at : ℕ) (piece : List ℕ) (b : Bool) (s : Contents) (c : List ℕ) → IsLeft s c → IsLeft (step (wrote at piece b) s) (replaced (min at (length c)) piece c)
left_write at piece true s c left = record {
  no_shorter = omega (arith, length-replaced (min at (length c)) piece c (omega arith), left.no_shorter);
  no_longer = omega (arith, length-replaced (min at (length c)) piece c (omega arith), left.no_longer);
  kept = λ k lt free. ⊎_elim (λ before. replaced_before (min at (length c)) piece c (omega arith) k (omega (arith, before, lt, left.no_shorter)))
      (λ after. replaced_after (min at (length c)) piece c (omega arith) k (omega (arith, after, lt, left.no_shorter))) free.0 ∙ left.kept k lt free.1;
}
left_write at piece false s c left = record {
  no_shorter = omega (arith, length-replaced (min at (length c)) piece c (omega arith), left.no_shorter);
  no_longer = omega (arith, length-replaced (min at (length c)) piece c (omega arith), left.no_longer);
  kept = λ k lt free. ⊎_elim (λ before. replaced_before (min at (length c)) piece c (omega arith) k (omega (arith, before, lt, left.no_shorter)))
      (λ after. replaced_after (min at (length c)) piece c (omega arith) k (omega (arith, after, lt, left.no_shorter))) free.0 ∙ left.kept k lt free.1;
}

left_cut : (n : ℕ) (b : Bool) (s : Contents) (c : List ℕ) → IsLeft s c → IsLeft (step (shortened_to n b) s) (take n c)
left_cut n true s c left = record {
  no_shorter = omega (arith, length-take n c, left.no_shorter);
  no_longer = omega (arith, length-take n c, left.no_longer);
  kept = λ k lt free. get_or-take n c k 0 (omega arith) ∙ left.kept k (omega arith) free;
}
left_cut n false s c left = record {
  no_shorter = omega (arith, length-take n c, left.no_shorter);
  no_longer = omega (arith, length-take n c, left.no_longer);
  kept = λ k lt free. get_or-take n c k 0 (omega arith) ∙ left.kept k (omega arith) free;
}

-- a call that the crash did not let through
pub left_skipped_write : (at : ℕ) (piece : List ℕ) (b : Bool) (s : Contents) (c : List ℕ) → IsLeft s c → IsLeft (step (wrote at piece b) s) c
left_skipped_write at piece true s c left = record { no_shorter = left.no_shorter; no_longer = omega (arith, left.no_longer); kept = λ k lt free. left.kept k lt free.1 }
left_skipped_write at piece false s c left = record { no_shorter = left.no_shorter; no_longer = omega (arith, left.no_longer); kept = λ k lt free. left.kept k lt free.1 }

pub left_skipped_cut : (n : ℕ) (b : Bool) (s : Contents) (c : List ℕ) → IsLeft s c → IsLeft (step (shortened_to n b) s) c
left_skipped_cut n true s c left = record { no_shorter = omega (arith, left.no_shorter); no_longer = left.no_longer; kept = λ k lt free. left.kept k (omega arith) free }
left_skipped_cut n false s c left = record { no_shorter = omega (arith, left.no_shorter); no_longer = left.no_longer; kept = λ k lt free. left.kept k (omega arith) free }

-- the content after a crash that lets the first `kept` calls since the last sync through
pub crashed_left : (kept : ℕ) (s : Contents) (c : List ℕ) (left : ℕ) (calls : List Kept) → IsLeft s c → IsLeft (run s calls) (crashed kept s c left calls)
crashed_left kept s c left [] is = is
crashed_left kept s c left (synced ∷ calls) is = crashed_left kept (settled s) s.now kept calls (left_sync s)
crashed_left kept s c zero (wrote at piece b ∷ calls) is = crashed_left kept (step (wrote at piece b) s) c 0 calls (left_skipped_write at piece b s c is)
crashed_left kept s c zero (shortened_to n b ∷ calls) is = crashed_left kept (step (shortened_to n b) s) c 0 calls (left_skipped_cut n b s c is)
crashed_left kept s c (suc left) (wrote at piece b ∷ calls) is = crashed_left kept (step (wrote at piece b) s) (replaced (min at (length c)) piece c) left calls (left_write at piece b s c is)
crashed_left kept s c (suc left) (shortened_to n b ∷ calls) is = crashed_left kept (step (shortened_to n b) s) (take n c) left calls (left_cut n b s c is)

pub clamped : (at : ℕ) (piece c : List ℕ) → replaced (min at (length c)) piece c ≡ replaced at piece c
clamped at piece c = ⊎_elim (λ lt. let e : min at (length c) ≡ at = omega arith in ap (λ (k : ℕ). replaced k piece c) e)
    (λ le. let e : min at (length c) ≡ length c = omega arith in
    ap (λ (k : ℕ). replaced k piece c) e
    ∙ ap (λ (l : List ℕ). l ++ (piece ++ drop (length c + length piece) c)) (take_all (length c) c (omega arith) ∙ sym (take_all at c (omega arith)))
    ∙ ap (λ (l : List ℕ). take at c ++ (piece ++ l)) (drop_all (length c + length piece) c (omega arith) ∙ sym (drop_all (at + length piece) c (omega arith)))) (cases_lt at (length c))

pub crashed_first : (kept : ℕ) (first : List ℕ) (calls : List Kept) → IsLeft (run (fresh first) calls) (crashed kept (fresh first) first kept calls)
crashed_first kept first calls = crashed_left kept (fresh first) first kept calls (left_fresh first)

-- what a read gives is left by a crash that lets all through
step_left : (call : Kept) (s : Contents) → IsLeft s s.now → IsLeft (step call s) (step call s).now
step_left (wrote at piece true) s left = subst (λ (c : List ℕ). IsLeft (step (wrote at piece true) s) c) (clamped at piece s.now) (left_write at piece true s s.now left)
step_left (wrote at piece false) s left = left_skipped_write at piece false s s.now left
step_left (shortened_to n true) s left = left_cut n true s s.now left
step_left (shortened_to n false) s left = left_skipped_cut n false s s.now left
step_left synced s left = left_sync s

run_left : (s : Contents) (calls : List Kept) → IsLeft s s.now → IsLeft (run s calls) (run s calls).now
run_left s [] left = left
run_left s (call ∷ calls) left = run_left (step call s) calls (step_left call s left)

pub left_as_read : (first : List ℕ) (calls : List Kept) → IsLeft (run (fresh first) calls) (run (fresh first) calls).now
left_as_read first calls = run_left (fresh first) calls (left_fresh first)
