-- A door in memory, as contracts see it.
use Rattle.std.specs.Prelude.{ℕ, Bool, false, List, []}
use Rattle.outside_io.specs.MemoryLink.{MemoryLinkState}

pub record MemoryDoorState : Type 0 where
  -- the links that still come, first the next, and those given back
  pub coming : List MemoryLinkState
  pub returned : List MemoryLinkState
  -- the numbers of the calls that fail, and the number of the next call
  pub failing : List ℕ
  pub calls : ℕ
  pub is_open : Bool
  -- whether a link was given and not given back yet
  pub is_out : Bool
  pub faults : ℕ

-- before its first call
abbrev pub new_door : List MemoryLinkState → List ℕ → MemoryDoorState
new_door links failing = record {
  coming = links;
  returned = [];
  failing = failing;
  calls = 0;
  is_open = false;
  is_out = false;
  faults = 0;
}
