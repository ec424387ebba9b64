-- One call more.
use Rattle.std.proofs.Common.{◌≡◌, ◌⊎◌, inl, inr, ℕ, ◌<◌, ◌≤◌, List, [], ◌∷◌, ◌++◌, length, take, refl, sym, subst, arith, length-append, Some}
use Rattle.std.proofs.lemmas.List.{take_all, take-append-le}
use Rattle.std.proofs.lemmas.Bool.{cases_lt}
use Rattle.outside_io.specs.Disks.{Contents, fresh, IsLeft, MayLeave, Elapses}
use Rattle.outside_io.specs.MemoryDisk.{Kept, step, run, LeftSince}

pub run_push : (s : Contents) (calls : List Kept) (call : Kept) → run s (calls ++ call ∷ []) ≡ step call (run s calls)
run_push s [] call = refl
run_push s (c ∷ calls) call = run_push (step c s) calls call

module _ (first : List ℕ) (calls : List Kept) (call : Kept) where
  abbrev more : List Kept
  more = calls ++ call ∷ []

  abbrev at_call : ℕ → List Kept → List ℕ → Type 0
  at_call k l c = IsLeft (run (fresh first) (take k l)) c

  else_now : (t k : ℕ) (c : List ℕ) → t ≤ k → (length calls < k) ⊎ (k ≤ length calls) → k ≤ length more → at_call k more c → LeftSince first calls t c ⊎ MayLeave (Some (run (fresh first) more)) c
  else_now t k c above (inr old) below left = inl (k, above, old, subst (λ (l : List Kept). IsLeft (run (fresh first) l) c) (take-append-le k calls (call ∷ []) old) left)
  else_now t k c above (inl new) below left = inr (subst (λ (l : List Kept). IsLeft (run (fresh first) l) c) (take_all k more (omega (arith, length-append calls (call ∷ [])))) left)

  pub elapses_push : Elapses (length calls) (length more) (LeftSince first calls) (LeftSince first more) (Some (run (fresh first) more))
  elapses_push = record {
    later = omega (arith, length-append calls (call ∷ []));
    nothing_else = λ t c le left. else_now t left.0 c left.1 (cases_lt (length calls) left.0) left.2 left.3;
    keeps = λ t c le left. (left.0, left.1, omega (arith, length-append calls (call ∷ []), left.2), subst (λ (l : List Kept). IsLeft (run (fresh first) l) c) (sym (take-append-le left.0 calls (call ∷ []) left.2)) left.3);
  }
