-- Internal ids that a change gives, while it is being prepared.
use Rattle.std.specs.Prelude.{◌≡◌, ℕ, List, Option, None, Some}
use Rattle.path_registry.specs.Names.{Names, number_at}
use Rattle.doc_store.specs.Store.{Store, id_of}

-- the first number, or else the second
abbrev pub first_of : Option ℕ → Option ℕ → Option ℕ
first_of None second = second
first_of (Some n) second = Some n

-- the internal id of a document that is stored, or that came earlier in the same change
abbrev pub known_id : Names → Names → List ℕ → Option ℕ
known_id stored fresh external = first_of (number_at external stored) (number_at external fresh)

-- the ids that are known are those of a store, and the next one that is free is its next
pub record AreIdsOf (stored fresh : Names) (free : ℕ) (s : Store) : Type 0 where
  pub next : s.next_id ≡ free
  pub each : (external : List ℕ) → known_id stored fresh external ≡ id_of external s.rows
