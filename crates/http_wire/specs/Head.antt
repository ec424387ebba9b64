-- Where the head of a request begins and ends in the bytes of a link.
use Rattle.std.specs.Prelude.{◌≡◌, ◌⊎◌, ℕ, ◌+◌, ◌-◌, ◌<◌, ◌≤◌, Bool, true, false, ◌&&◌, ◌||◌, ◌==◌, nat_le, List, length, take, drop, slice_index}

-- the most bytes of a head, and fewer are the line ends before it
abbrev pub most_head : ℕ
most_head = 16384

-- byte k belongs to a line end, which is a line feed, or a carriage return and a line feed
unfoldable pub is_end_at : List ℕ → ℕ → Bool
is_end_at bytes k = slice_index bytes k == 10 || (slice_index bytes k == 13 && slice_index bytes (k + 1) == 10)

-- the first n bytes are line ends
pub record AreEnds (bytes : List ℕ) (n : ℕ) : Type 0 where
  pub each : (k : ℕ) → k < n → is_end_at bytes k ≡ true

-- the first byte that belongs to no line end stands at n, or the bytes end there
pub record Starts (bytes : List ℕ) (n : ℕ) : Type 0 where
  pub before : AreEnds bytes n
  pub other : is_end_at bytes n ≡ false

-- the first n bytes end with an empty line: two line feeds with at most one carriage return between
unfoldable pub closes_at : List ℕ → ℕ → Bool
closes_at bytes n =
    nat_le 2 n && slice_index bytes (n - 1) == 10
    && (slice_index bytes (n - 2) == 10
    || (nat_le 3 n && slice_index bytes (n - 2) == 13 && slice_index bytes (n - 3) == 10))

-- no empty line ends within fewer than n bytes
pub record HasNoEmptyLine (bytes : List ℕ) (n : ℕ) : Type 0 where
  pub each : (k : ℕ) → k < n → closes_at bytes k ≡ false

-- a head of len bytes begins at start
pub record IsHeadAt (bytes : List ℕ) (start len : ℕ) : Type 0 where
  pub starts : Starts bytes start
  pub few : start < most_head
  pub closes : closes_at (drop start bytes) len ≡ true
  pub first : HasNoEmptyLine (drop start bytes) len
  pub fits : len ≤ most_head

-- the bytes of a head
abbrev pub head_bytes : List ℕ → ℕ → ℕ → List ℕ
head_bytes bytes start len = take len (drop start bytes)

-- the head's first bytes have no empty line
pub record IsLongHead (bytes : List ℕ) : Type 0 where
  pub start : ℕ
  pub starts : Starts bytes start
  pub few : start < most_head
  pub none : HasNoEmptyLine (drop start bytes) (most_head + 1)
  pub many : start + most_head ≤ length bytes

-- too many line ends before a head, or a head that is too long
abbrev pub IsTooLong : List ℕ → Type 0
IsTooLong bytes = AreEnds bytes most_head ⊎ IsLongHead bytes

-- nothing but line ends, and not too many
pub record IsBlank (bytes : List ℕ) : Type 0 where
  pub ends : AreEnds bytes (length bytes)
  pub few : length bytes < most_head

-- a head has begun and has no empty line yet
pub record IsInHead (bytes : List ℕ) : Type 0 where
  pub start : ℕ
  pub starts : Starts bytes start
  pub few : start < most_head
  pub some : start < length bytes
  pub none : HasNoEmptyLine (drop start bytes) (most_head + 1)
  pub short : length bytes < start + most_head
