-- A list of slots, and values that are staged for it.
use Rattle.std.specs.Prelude.{◌≡◌, ◌≤◌, ◌<◌, ℕ, List, [], ◌∷◌, ◌++◌, map, drop, length, nat_lt, slice_set, slice_index_or, Option, None, Some, refl, if◌then◌else◌}
use Rattle.std.specs.List.{filter_map}
use Rattle.std.specs.Coded.{Coded, code_by, coded×, coded_list, coded_option}

-- the slots, and the values that wait behind them
pub record StagedView (T : Type 0) : Type 0 where
  pub slots : List (Option T)
  pub staged : List T

abbrev pub staged_code : {T : Type 0} → Coded T → Coded (StagedView T)
staged_code {T} code =
    code_by
    (List (Option T) × List T)
    (coded× (coded_list (coded_option code)) (coded_list code))
    (λ s. (s.slots, s.staged))
    (λ p. record { slots = p.0; staged = p.1 })
    (λ _. refl)

module _ {T : Type 0} where
  -- the values of those that have one
  abbrev pub filled : List (Option T) → List T
  filled items = filter_map (λ item. item) items

  -- the first of the items are slots, from another place on each one is staged, and between them nothing is held
  pub record IsCut (items : List (Option T)) (slots next : ℕ) : Type 0 where
    pub order : slots ≤ next
    pub within : next ≤ length items
    pub room : (k : ℕ) → slots ≤ k → k < next → slice_index_or items k None ≡ None
    pub staged : drop next items ≡ map Some (filled (drop next items))

  -- the slots with a value in one of them, or in a new one behind the others
  abbrev pub settled : ℕ → T → List (Option T) → List (Option T)
  settled at value slots =
      if nat_lt at (length slots) then slice_set slots at (Some value) else slots ++ Some value ∷ []
