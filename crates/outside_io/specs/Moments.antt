-- The clock of a disk in memory is the number of calls that it keeps.
use Rattle.std.specs.Prelude.{ℕ, ◌≤◌, List, length}
use Rattle.std.proofs.Common.{sym, subst, arith}
use Rattle.std.proofs.lemmas.List.{take_all}
use Rattle.outside_io.specs.Disks.{fresh, IsLeft}
use Rattle.outside_io.specs.MemoryDisk.{Kept, run, LeftSince}

pub left_now : (first : List ℕ) (calls : List Kept) (t : ℕ) (c : List ℕ) → t ≤ length calls → IsLeft (run (fresh first) calls) c → LeftSince first calls t c
left_now first calls t c le left =
    (length calls, le, omega arith, subst (λ (l : List Kept). IsLeft (run (fresh first) l) c) (sym (take_all (length calls) calls (omega arith))) left)

pub only_left : (first : List ℕ) (calls : List Kept) (c : List ℕ) → LeftSince first calls (length calls) c → IsLeft (run (fresh first) calls) c
only_left first calls c (k, above, below, left) = subst (λ (l : List Kept). IsLeft (run (fresh first) l) c) (take_all k calls above) left
