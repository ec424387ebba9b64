-- How many slots there are and how many values are staged, after a value is settled.
use Rattle.std.proofs.Common.{◌≡◌, ◌<◌, ◌≤◌, ◌+◌, ◌∷◌, [], ℕ, List, length, Option, refl, ap, arith}
use Rattle.std.proofs.lemmas.Bool.Decides.{nat_tests}
use Rattle.std.proofs.lemmas.Grind.{common_steps}
use Rattle.staged_slots.specs.Staged.{StagedView, settled}

module _ {T : Type 0} where
  -- one value less is staged, no slot is lost, and the slot is there
  pub record IsSettled (old new : StagedView T) (at : ℕ) : Type 0 where
    pub left : length new.staged + 1 ≡ length old.staged
    pub kept : length old.slots ≤ length new.slots
    pub there : at < length new.slots

  -- no slot is lost where a value is settled, and its slot is there
  length-settled : (at : ℕ) (value : T) (slots : List (Option T)) → at ≤ length slots → (length slots ≤ length (settled at value slots)) × (at < length (settled at value slots))
  length-settled at value slots h = (grind (arith, nat_tests, common_steps), grind (arith, nat_tests, common_steps))

  -- what `settle` ensures, where the list of the values that were staged is at hand
  settled-of :
      (staged : List T) (old new : StagedView T) (at : ℕ)
      → ((first : T) (rest : List T) → old.staged ≡ first ∷ rest → (new.staged ≡ rest) × (new.slots ≡ settled at first old.slots)) → old.staged ≡ staged
      → 0 < length old.staged → at ≤ length old.slots → IsSettled old new at
  settled-of [] old new at h e staged slot = absurd (omega (arith, ap length e))
  settled-of (first ∷ rest) old new at h e staged slot =
      let s = h first rest e in
      let n = length-settled at first old.slots slot in
      let l = ap length s.0 in
      let m = ap length s.1 in
      let k = ap length e in
      record { left = omega arith; kept = omega arith; there = omega arith }

  -- what `settle` ensures of the lengths
  pub IsSettled-settle :
      (old new : StagedView T) (at : ℕ)
      → ((first : T) (rest : List T) → old.staged ≡ first ∷ rest → (new.staged ≡ rest) × (new.slots ≡ settled at first old.slots)) → 0 < length old.staged
      → at ≤ length old.slots → IsSettled old new at
  IsSettled-settle old new at h staged slot = settled-of old.staged old new at h refl staged slot
