-- The tasks that wait, as payloads behind an image.
use Rattle.std.proofs.Common.{◌≡◌, ℕ, suc, zero, ◌+◌, ◌<◌, List, [], ◌∷◌, ◌++◌, length, get_or, take, refl, sym, ◌∙◌, ap, subst, arith, Ok}
use Rattle.std.specs.List.{AllByRecursion}
use Rattle.document_changes.specs.Changes.{ChangeData}
use Rattle.task_queue.specs.declared.task.Task.{Task}
use Rattle.task_queue.specs.Queue.{AreNumbered}
use Rattle.named_indexes.specs.Payloads.{Records}
use Rattle.search_routes.specs.Redo.{IsReadAgain, task_again}
use Rattle.durable_machine.specs.Recorded.{AreTasks}

-- as many payloads as tasks
pub as_many : (n : ℕ) (payloads : List (List ℕ)) (ts : List (Task ChangeData)) → AreTasks n payloads ts → length payloads ≡ length ts
as_many n [] [] are = refl
as_many n [] (t ∷ ts) are = absurd are
as_many n (bytes ∷ more) [] are = absurd are
as_many n (bytes ∷ more) (t ∷ ts) are = ap suc (as_many (n + 1) more ts are.1)

-- one more
pub more_tasks : (n : ℕ) (payloads : List (List ℕ)) (ts : List (Task ChangeData)) (bytes : List ℕ) (t : Task ChangeData) → AreTasks n payloads ts → task_again (n + length ts) bytes ≡ Ok t
    → AreTasks n (payloads ++ bytes ∷ []) (ts ++ t ∷ [])
more_tasks n [] [] bytes t are again = (ap (λ (k : ℕ). task_again k bytes) (omega arith) ∙ again, tt)
more_tasks n [] (u ∷ us) bytes t are again = absurd are
more_tasks n (first ∷ more) [] bytes t are again = absurd are
more_tasks n (first ∷ more) (u ∷ us) bytes t (is, are) again =
    let at : n + 1 + length us ≡ n + length (u ∷ us) = omega arith in
    (is, more_tasks (n + 1) more us bytes t are (ap (λ (k : ℕ). task_again k bytes) at ∙ again))

-- one task of those that wait
pub read_at : (ts : List (Task ChangeData)) (from k : ℕ) (t : Task ChangeData) (bytes : List ℕ) → AllByRecursion IsReadAgain ts → AreNumbered from ts → k < length ts → t ≡ get_or ts k t
    → Records t.change bytes → task_again (from + k) bytes ≡ Ok t
read_at [] from k t bytes all numbered lt e records = absurd (omega (arith, lt))
read_at (u ∷ us) from zero t bytes all numbered lt e records =
    let again = all.0 bytes (subst (λ (v : Task ChangeData). Records v.change bytes) e records) in
    let number : from + 0 ≡ u.number = omega (arith, numbered.0) in
    ap (λ (n : ℕ). task_again n bytes) number ∙ again ∙ ap Ok (sym e)
read_at (u ∷ us) from (suc k) t bytes all numbered lt e records =
    let next : from + suc k ≡ from + 1 + k = omega arith in
    ap (λ (n : ℕ). task_again n bytes) next ∙ read_at us (from + 1) k t bytes all.1 numbered.1 (omega (arith, lt)) e records

-- the first tasks, and the next
take_next : {A : Type 0} (xs : List A) (k : ℕ) (x : A) → k < length xs → x ≡ get_or xs k x → take (suc k) xs ≡ take k xs ++ x ∷ []
take_next [] k x lt e = absurd (omega (arith, lt))
take_next (y ∷ ys) zero x lt e = ap (λ z. z ∷ []) (sym e)
take_next (y ∷ ys) (suc k) x lt e = ap (λ l. y ∷ l) (take_next ys k x (omega (arith, lt)) e)

pub take_more : {A : Type 0} (xs : List A) (k : ℕ) (x : A) → k < length xs → x ≡ get_or xs k x → take (k + 1) xs ≡ take k xs ++ x ∷ []
take_more xs k x lt e = let next : k + 1 ≡ suc k = omega arith in ap (λ n. take n xs) next ∙ take_next xs k x lt e
