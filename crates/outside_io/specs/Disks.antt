-- What a disk holds: what a read gives, and what a crash may leave.
use Rattle.std.specs.Prelude.{◌≡◌, ◌⊎◌, ℕ, ◌+◌, ◌-◌, ◌^◌, ◌<◌, ◌≤◌, min, max, List, [], ◌∷◌, ◌++◌, length, get_or, take, drop, Option, Some, None}
use Rattle.std.specs.Option.{option_map}

pub record Contents : Type 0 where
  -- what a read gives, and what it gave at the last sync that succeeded
  pub now : List ℕ
  pub synced : List ℕ
  -- the least and the greatest length since that sync
  pub least : ℕ
  pub most : ℕ
  -- where bytes were written since: places, each with a number of bytes
  pub touched : List (ℕ × ℕ)

-- nothing is pending: a crash leaves what a read gives
abbrev pub fresh : List ℕ → Contents
fresh xs = record { now = xs; synced = xs; least = length xs; most = length xs; touched = [] }

-- xs with a piece over what stands at a place, and past the end
abbrev pub replaced : ℕ → List ℕ → List ℕ → List ℕ
replaced at piece xs = take at xs ++ (piece ++ drop (at + length piece) xs)

-- a write that a read does not see yet, and a crash may leave
abbrev pub spoiled : ℕ → List ℕ → Contents → Contents
spoiled at piece s = record {
  now = s.now;
  synced = s.synced;
  least = s.least;
  most = max s.most (at + length piece);
  touched = (at, length piece) ∷ s.touched;
}

-- a write
abbrev pub written : ℕ → List ℕ → Contents → Contents
written at piece s = record {
  now = replaced at piece s.now;
  synced = s.synced;
  least = s.least;
  most = max s.most (at + length piece);
  touched = (at, length piece) ∷ s.touched;
}

-- a cut that a read does not see yet, and a crash may leave
abbrev pub shortened : ℕ → Contents → Contents
shortened n s = record { now = s.now; synced = s.synced; least = min s.least n; most = s.most; touched = s.touched }

-- a cut
abbrev pub cut_to : ℕ → Contents → Contents
cut_to n s = record { now = take n s.now; synced = s.synced; least = min s.least n; most = s.most; touched = s.touched }

-- a sync
abbrev pub settled : Contents → Contents
settled s = fresh s.now

-- no write since the last sync touched the byte at k
abbrev pub IsUntouched : ℕ → List (ℕ × ℕ) → Type 0
IsUntouched k [] = Unit {0}
IsUntouched k (range ∷ ranges) = ((k < range.0) ⊎ (range.0 + range.1 ≤ k)) × IsUntouched k ranges

-- a crash may leave c: its length is one from the least to the greatest since the last sync, and each byte below the least
-- length that no write touched since stands as it was then
pub record IsLeft (s : Contents) (c : List ℕ) : Type 0 where
  pub no_shorter : s.least ≤ length c
  pub no_longer : length c ≤ s.most
  pub kept : (k : ℕ) → k < s.least → IsUntouched k s.touched → get_or c k 0 ≡ get_or s.synced k 0

-- the same of a disk that may tell nothing: of such a disk no crash content is known
abbrev pub MayLeave : Option Contents → List ℕ → Type 0
MayLeave None c = ⊥
MayLeave (Some s) c = IsLeft s c

-- P of what a read gives, where the disk tells it
abbrev pub Told : Option Contents → (List ℕ → Type 0) → Type 0
Told None P = Unit {0}
Told (Some s) P = P s.now

-- a crash may leave the disk as it reads
abbrev pub MayLeaveAsRead : Option Contents → Type 0
MayLeaveAsRead contents = Told contents (λ xs. MayLeave contents xs)

-- the length is a u64
abbrev pub IsInRange : Option Contents → Type 0
IsInRange contents = Told contents (λ xs. length xs < 2 ^ 64)

-- a call that failed had no effect, or counts as made in what a crash may leave
abbrev pub MayHave : (Contents → Contents) → Option Contents → Option Contents → Type 0
MayHave step before after = (after ≡ before) ⊎ (after ≡ option_map step before)

-- a read of at most `room` bytes at a place gives n bytes: fewer than it has room for only at the end
pub record Gives (xs : List ℕ) (at room : ℕ) (n : ℕ) (into : List ℕ) : Type 0 where
  pub count : n ≡ min room (length xs - at)
  pub bytes : take n into ≡ take n (drop at xs)

-- a call took its time: a crash since an earlier moment might have left what it might have left before the call, and
-- besides only what it may leave now
pub record Elapses (before now : ℕ) (past since : ℕ → List ℕ → Type 0) (contents : Option Contents) : Type 0 where
  pub later : before ≤ now
  pub nothing_else : (t : ℕ) (c : List ℕ) → t ≤ before → since t c → past t c ⊎ MayLeave contents c
  pub keeps : (t : ℕ) (c : List ℕ) → t ≤ before → past t c → since t c

-- a crash at any moment between two states of a disk leaves contents that have P
pub record LeavesOnly {D : Type 0} (moment : D → ℕ) (left_since : D → ℕ → List ℕ → Type 0) (old new : D) (P : List ℕ → Type 0) : Type 0 where
  pub later : moment old ≤ moment new
  pub each : (c : List ℕ) → left_since new (moment old) c → P c
  -- for a run that began earlier
  pub before : (t : ℕ) (c : List ℕ) → t ≤ moment old → left_since new t c → left_since old t c ⊎ P c
