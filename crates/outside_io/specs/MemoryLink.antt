-- A link in memory, as contracts see it.
use Rattle.std.specs.Prelude.{ℕ, List, []}

pub record MemoryLinkState : Type 0 where
  -- the bytes that are left to read, and those written
  pub left : List ℕ
  pub written : List ℕ
  -- the numbers of the calls that fail, and the number of the next call
  pub failing : List ℕ
  pub calls : ℕ
  -- how many bytes a call moves at most
  pub most : ℕ
  pub read_faults : ℕ
  pub write_faults : ℕ
  -- how many writes found no memory
  pub starved : ℕ

-- before its first call
abbrev pub new_link : List ℕ → List ℕ → ℕ → MemoryLinkState
new_link input failing most = record {
  left = input;
  written = [];
  failing = failing;
  calls = 0;
  most = most;
  read_faults = 0;
  write_faults = 0;
  starved = 0;
}
