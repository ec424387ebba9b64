-- Documents that are read one after the other, as a loop does.
use Rattle.std.proofs.Common.{◌≡◌, ℕ, suc, ◌-◌, ◌+◌, ◌≤◌, ◌<◌, List, [], ◌∷◌, ◌++◌, Result, Ok, Err, refl, sym, ap, ◌∙◌, append_assoc, arith}
use Rattle.std.proofs.lemmas.List.{append-nil}
use Rattle.serde_json.specs.Data.{Data}
use Rattle.change_payloads.specs.declared.fault.ReadFault.{ReadFault}
use Rattle.change_payloads.specs.declared.fault.ReadFault.TheVariants as faults
use Rattle.change_payloads.specs.Fields.{◌>>=◌, stored_at, documents_at}
use Rattle.change_payloads.specs.Answers.{Fails}

-- what was read before, and what is still read
abbrev pub with_front : List Data → Result (List Data × List ℕ) ℕ → Result (List Data × List ℕ) ℕ
with_front front given = given >>= λ x. Ok (front ++ x.0, x.1)

regroup : (front : List Data) (d : Data) (given : Result (List Data × List ℕ) ℕ) → with_front front (given >>= λ x. Ok (d ∷ x.0, x.1)) ≡ with_front (front ++ d ∷ []) given
regroup front d (Ok x) = ap (λ (ds : List Data). Ok (ds, x.1)) (simp append_assoc)
regroup front d (Err left) = refl

pub goes_on : (front : List Data) (count i : ℕ) (bytes : List ℕ) (d : Data) (after : List ℕ) (total : Result (List Data × List ℕ) ℕ) → i < count → stored_at bytes ≡ Ok (d, after)
    → with_front front (documents_at (count - i) bytes) ≡ total → with_front (front ++ d ∷ []) (documents_at (count - (i + 1)) after) ≡ total
unfolding documents_at
goes_on front count i bytes d after total lt h so_far =
    let k : count - i ≡ suc (count - (i + 1)) = omega arith in
    let one : with_front front (documents_at (count - i) bytes) ≡ with_front (front ++ d ∷ []) (documents_at (count - (i + 1)) after) = rw (k, h) (regroup front d (documents_at (count - (i + 1)) after)) in
    sym one ∙ so_far

pub ends : (fault : ReadFault) (front : List Data) (count i : ℕ) (bytes : List ℕ) (total : Result (List Data × List ℕ) ℕ) → i < count → Fails fault (stored_at bytes)
    → with_front front (documents_at (count - i) bytes) ≡ total → Fails fault total
unfolding documents_at
ends faults.NoMemory front count i bytes total lt h so_far = tt
ends (faults.Left left) front count i bytes total lt h so_far =
    let k : count - i ≡ suc (count - (i + 1)) = omega arith in
    let one : with_front front (documents_at (count - i) bytes) ≡ Err left = rw (k, h) refl in
    sym so_far ∙ one

pub is_done : (front : List Data) (count i : ℕ) (bytes : List ℕ) (total : Result (List Data × List ℕ) ℕ) → count ≤ i → with_front front (documents_at (count - i) bytes) ≡ total → total ≡ Ok (front, bytes)
unfolding documents_at
is_done front count i bytes total le so_far =
    let k : count - i ≡ 0 = omega arith in
    let one : with_front front (documents_at (count - i) bytes) ≡ Ok (front, bytes) = rw k (ap (λ (ds : List Data). Ok (ds, bytes)) (append-nil front)) in
    sym so_far ∙ one
