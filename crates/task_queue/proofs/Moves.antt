-- A task that joins or leaves.
use Rattle.std.proofs.Common.{◌≡◌, ℕ, suc, zero, ◌+◌, ◌-◌, ◌<◌, ◌≤◌, ◌^◌, List, [], ◌∷◌, ◌++◌, length, take, drop, sym, ◌∙◌, ap, subst, arith, length-append, length-drop}
use Rattle.std.specs.Prelude.{Some, None, Result, Ok, Err, IsOk, is_ok, false, slice_get, if◌then◌else◌}
use Rattle.std.proofs.lemmas.Bool.{leb-false, false≢true}
use Rattle.circular_buffer.specs.Buffer.{Buffer}
use Rattle.search_base.specs.declared.outcome.OutcomeRow.{OutcomeRow}
use Rattle.task_queue.specs.declared.task.Task.{Task}
use Rattle.task_queue.specs.Queue.{Tasks, AreNumbered, keep_last, is_full}
use Rattle.task_queue.specs.Rooms.{HasRoom}

pub numbered_more : {C : Type 0} (from : ℕ) (ts : List (Task C)) (t : Task C) → AreNumbered from ts → t.number ≡ from + length ts → AreNumbered from (ts ++ t ∷ [])
numbered_more from [] t are e = (omega arith, tt)
numbered_more from (s ∷ ts) t are e = (are.0, numbered_more (from + 1) ts t are.1 (omega arith))

pub numbered_fewer : {C : Type 0} (from : ℕ) (t : Task C) (ts : List (Task C)) → AreNumbered from (t ∷ ts) → AreNumbered (from + 1) ts
numbered_fewer from t ts are = are.1

pub kept_within : {A : Type 0} (n : ℕ) (xs : List A) → length (keep_last n xs) ≤ n
kept_within n xs = omega (arith, length-drop (length xs - n) xs)

pub kept_fewer : {A : Type 0} (n : ℕ) (xs : List A) → length (keep_last n xs) ≤ length xs
kept_fewer n xs = omega (arith, length-drop (length xs - n) xs)

pub kept_all : {A : Type 0} (n : ℕ) (xs : List A) → length xs ≤ n → keep_last n xs ≡ xs
kept_all n xs short = let none : length xs - n ≡ 0 = omega (arith, short) in ap (λ (k : ℕ). drop k xs) none

-- what a push that succeeds leaves
pub if_ok : {T E X : Type 0} (r : Result T E) (x y z : X) → IsOk r → z ≡ (if is_ok r then x else y) → z ≡ x
if_ok (Ok v) x y z ok e = e
if_ok (Err v) x y z ok e = absurd (false≢true ok)

pub push_keeps : {C : Type 0} (t : Task C) (s : Tasks C) (finished : ℕ) (queued more : List (Task C)) (outcomes : Buffer OutcomeRow) (old new : ℕ) → HasRoom finished queued outcomes old
    → s.finished ≡ finished → s.queued ≡ queued → is_full s ≡ false → t.number ≡ s.finished + length s.queued → t.number < 2 ^ 64 - 1 → more ≡ queued ++ t ∷ [] → old ≤ new
    → HasRoom finished more outcomes new
push_keeps t s finished queued more outcomes old new has same_finished same_queued full next last is wider =
    let less = leb-false 16 (length s.queued) full in
    let long : length more ≡ length queued + 1 = omega (arith, ap length is, length-append queued (t ∷ [])) in
    let at : t.number ≡ finished + length queued = omega (arith, next, same_finished, ap length same_queued) in
    record {
      few = omega (arith, less, long, ap length same_queued);
      room = omega (arith, has.room, wider);
      ring = has.ring;
      short = has.short;
      within = has.within;
      numbered = subst (AreNumbered finished) (sym is) (numbered_more finished queued t has.numbered at);
      last = omega (arith, long, at, last);
    }

took_suc : {A : Type 0} (xs : List A) (k : ℕ) (x : A) → slice_get xs k ≡ Some x → take (suc k) xs ≡ take k xs ++ x ∷ []
took_suc [] k x e = grind (arith, e)
took_suc (y ∷ xs) zero x e = grind (arith, e)
took_suc (y ∷ xs) (suc k) x e = ap (λ l. y ∷ l) (took_suc xs k x e)

pub took : {A : Type 0} (xs : List A) (k : ℕ) (x : A) → slice_get xs k ≡ Some x → take (k + 1) xs ≡ take k xs ++ x ∷ []
took xs k x e = let next : k + 1 ≡ suc k = omega arith in ap (λ (n : ℕ). take n xs) next ∙ took_suc xs k x e

pub none_left : {A : Type 0} (xs : List A) (k : ℕ) → slice_get xs k ≡ None → length xs ≤ k
none_left [] k e = omega arith
none_left (y ∷ xs) zero e = grind (arith, e)
none_left (y ∷ xs) (suc k) e = omega (arith, none_left xs k e)
