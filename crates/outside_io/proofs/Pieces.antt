-- A piece that is put at a place: what fits over, and the rest at the end.
use Rattle.std.proofs.Common.{◌≡◌, ⊎_elim, ℕ, ◌+◌, ◌-◌, ◌≤◌, List, ◌++◌, length, take, drop, sym, ◌∙◌, ap, ap₂, arith, min, append-nil, take-append-drop}
use Rattle.std.proofs.lemmas.List.{take_all, drop_all, take-append-le, drop-append-le}
use Rattle.std.proofs.lemmas.Bool.{cases_lt}
use Rattle.outside_io.specs.Disks.{replaced}

pub put_over : (at over : ℕ) (piece xs : List ℕ) → at ≤ length xs → over ≡ min (length piece) (length xs - at)
    → take at (xs ++ drop over piece) ++ (take over piece ++ drop (at + over) (xs ++ drop over piece)) ≡ replaced at piece xs
put_over at over piece xs within is =
    let front : take at (xs ++ drop over piece) ≡ take at xs = take-append-le at xs (drop over piece) within in
    let tail : drop (at + over) (xs ++ drop over piece) ≡ drop (at + over) xs ++ drop over piece = drop-append-le (at + over) xs (drop over piece) (omega (arith, is)) in
    ap₂ (λ (a b : List ℕ). a ++ (take over piece ++ b)) front tail
    ∙ ap (λ (l : List ℕ). take at xs ++ l) (⊎_elim
    (λ lt. let all : over ≡ length piece = omega (arith, is, lt) in
    ap (λ (k : ℕ). take k piece ++ (drop (at + k) xs ++ drop k piece)) all
    ∙ ap₂ (λ (a b : List ℕ). a ++ (drop (at + length piece) xs ++ b)) (take_all (length piece) piece (omega arith)) (drop_all (length piece) piece (omega arith))
    ∙ ap (λ (l : List ℕ). piece ++ l) (append-nil (drop (at + length piece) xs)))
    (λ le. ap (λ (l : List ℕ). take over piece ++ (l ++ drop over piece)) (drop_all (at + over) xs (omega (arith, is, le)))
    ∙ take-append-drop over piece
    ∙ sym (ap (λ (l : List ℕ). piece ++ l) (drop_all (at + length piece) xs (omega (arith, is, le))) ∙ append-nil piece))
    (cases_lt (length piece) (length xs - at)))
