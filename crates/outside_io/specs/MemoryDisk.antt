-- A disk in memory, as contracts see it: the calls that it keeps, and what it holds after them.
use Rattle.std.specs.Prelude.{ℕ, zero, suc, ◌≤◌, List, [], ◌∷◌, length, take, Bool, min, true, false}
use Rattle.outside_io.specs.Disks.{Contents, fresh, spoiled, written, shortened, cut_to, settled, replaced, IsLeft}
use Rattle.outside_io.specs.declared.memory_disk.DiskCall.{DiskCall}
use Rattle.outside_io.specs.declared.memory_disk.DiskCall.TheVariants.{Write, Cut, Sync}

-- a call that is kept: a write or a cut, with whether it succeeded, or a sync that did
pub data Kept : Type 0 where
  wrote : ℕ → List ℕ → Bool → Kept
  shortened_to : ℕ → Bool → Kept
  synced : Kept

abbrev pub kept_of : DiskCall → Kept
kept_of (Write at piece done) = wrote at piece.items done
kept_of (Cut len done) = shortened_to len done
kept_of Sync = synced

-- what one call does
abbrev pub step : Kept → Contents → Contents
step (wrote at piece true) s = written at piece s
step (wrote at piece false) s = spoiled at piece s
step (shortened_to len true) s = cut_to len s
step (shortened_to len false) s = shortened len s
step synced s = settled s

-- what calls do, one after the other
abbrev pub run : Contents → List Kept → Contents
run s [] = s
run s (call ∷ calls) = run (step call s) calls

pub record MemoryDiskState : Type 0 where
  -- what it held when it was made, and the calls since
  pub first : List ℕ
  pub calls : List Kept
  -- the numbers of the calls that fail, and the number of the next call
  pub failing : List ℕ
  pub number : ℕ
  pub faults : ℕ
  -- how many calls found no memory
  pub starved : ℕ

-- before its first call
abbrev pub new_disk : List ℕ → List ℕ → MemoryDiskState
new_disk content failing = record { first = content; calls = []; failing = failing; number = 0; faults = 0; starved = 0 }

abbrev pub contents_of : MemoryDiskState → Contents
contents_of m = run (fresh m.first) m.calls

-- a crash after the t-th call or a later one might have left c
abbrev pub LeftSince : List ℕ → List Kept → ℕ → List ℕ → Type 0
LeftSince first calls t c = (k : ℕ) × (t ≤ k) × (k ≤ length calls) × IsLeft (run (fresh first) (take k calls)) c

-- what a crash leaves that lets the first writes and cuts through whole, `kept` of them behind each sync: c, with `left` of
-- them still to come, and s beside it, which is what the disk holds. A piece whose place lies past the end of c stands at its end
abbrev pub crashed : ℕ → Contents → List ℕ → ℕ → List Kept → List ℕ
crashed kept s c left [] = c
crashed kept s c left (synced ∷ calls) = crashed kept (settled s) s.now kept calls
crashed kept s c zero (wrote at piece b ∷ calls) = crashed kept (step (wrote at piece b) s) c 0 calls
crashed kept s c zero (shortened_to n b ∷ calls) = crashed kept (step (shortened_to n b) s) c 0 calls
crashed kept s c (suc left) (wrote at piece b ∷ calls) = crashed kept (step (wrote at piece b) s) (replaced (min at (length c)) piece c) left calls
crashed kept s c (suc left) (shortened_to n b ∷ calls) = crashed kept (step (shortened_to n b) s) (take n c) left calls

-- the same from the start
abbrev pub crash_content : MemoryDiskState → ℕ → List ℕ
crash_content m kept = crashed kept (fresh m.first) m.first kept m.calls
