-- How a list that is cut into slots and staged values changes.
use Rattle.std.proofs.Common.{◌≡◌, ◌<◌, ◌≤◌, ◌+◌, ◌++◌, ◌∷◌, [], ℕ, List, length, take, drop, map, Option, None, Some, sym, ap, ◌∙◌, arith, get_or, slice_set}
use Rattle.std.proofs.Math.Seq.{take-set-lt}
use Rattle.std.proofs.lemmas.Bool.Decides.{nat_tests}
use Rattle.std.proofs.lemmas.Grind.{common_steps}
use Rattle.std.proofs.lemmas.List.{get_or-set_same, get_or-set_other, get_or_append_left, drop-append-le, drop_more, drop-set-lt, length-append, length-set, length-take-le, map-append, take-set-le}
use Rattle.std.proofs.lemmas.List.Elements.{filter_map-append}
use Rattle.staged_slots.specs.Staged.{IsCut, filled, settled}

module _ {T : Type 0} where
  -- an empty item is no staged value
  none_first : (values : List T) (rest : List (Option T)) → None ∷ rest ≡ map Some values → rest ≡ map Some values
  none_first [] rest e = cc
  none_first (value ∷ values) rest e = cc

  -- behind the first item that is staged, the others are staged
  others_staged : (item : Option T) (rest : List (Option T)) → item ∷ rest ≡ map Some (filled (item ∷ rest)) → rest ≡ map Some (filled rest)
  others_staged (Some value) rest e = cc
  others_staged None rest e = none_first (filled rest) rest e

  -- the first item that is staged is the first value
  first_staged :
      (item : Option T) (rest : List (Option T)) (first : T) (others : List T) → item ∷ rest ≡ map Some (filled (item ∷ rest)) → filled (item ∷ rest) ≡ first ∷ others
      → (item ≡ Some first) × (filled rest ≡ others)
  first_staged (Some value) rest first others e f = (cc, cc)
  first_staged None rest first others e f = let g = ap (map Some) f in (cc, cc)

  -- the list with its first staged item moved into a slot
  abbrev pub moved : List (Option T) → ℕ → ℕ → Option T → List (Option T)
  moved items next at item = slice_set (slice_set items next None) at item

  -- where values are staged, the first of them is an item
  pub next-within : (items : List (Option T)) (next : ℕ) → 0 < length (filled (drop next items)) → next < length items
  next-within items next h = grind (arith, common_steps)

  -- what waits behind the first is not moved
  drop-moved : (items : List (Option T)) (next at : ℕ) (item : Option T) → at ≤ next → drop (next + 1) (moved items next at item) ≡ drop (next + 1) items
  drop-moved items next at item h = drop-set-lt (next + 1) (slice_set items next None) at item (omega arith) ∙ drop-set-lt (next + 1) items next None (omega arith)

  -- behind the slots nothing is held up to the item that was taken, and there neither
  emptied : (items : List (Option T)) (next k : ℕ) → (k < next → get_or items k None ≡ None) → next < length items → k < next + 1 → get_or (slice_set items next None) k None ≡ None
  emptied items next k room h below = grind (arith, get_or-set_same, get_or-set_other)

  -- a list with an item moved is cut behind that item
  pub IsCut-moved :
      (items : List (Option T)) (slots next at len : ℕ) (item : Option T) → IsCut items slots next → next < length items → at ≤ next → len ≤ next + 1 → slots ≤ len → at < len
      → IsCut (moved items next at item) len (next + 1)
  IsCut-moved items slots next at len item cut h i j more behind = record {
    order = j;
    within = simp length-set (omega arith);
    room = λ k from below. get_or-set_other (slice_set items next None) at k item None (omega arith) ∙ emptied items next k (λ low. cut.room k (omega arith) low) h below;
    staged =
        rw (drop-moved items next at item i)
        (others_staged (get_or items next None) (drop (next + 1) items) (rw (drop_more items next None h) at cut.staged));
  }

  -- what is staged in the list with the first item moved is the rest, and the item is the first
  pub first-moved :
      (items : List (Option T)) (slots next at : ℕ) (item : Option T) (first : T) (rest : List T) → IsCut items slots next → next < length items → at ≤ next
      → filled (drop next items) ≡ first ∷ rest → (get_or items next None ≡ Some first) × (filled (drop (next + 1) (moved items next at item)) ≡ rest)
  first-moved items slots next at item first rest cut h i e =
      let d = drop_more items next None h in
      let both = first_staged (get_or items next None) (drop (next + 1) items) first rest (rw d at cut.staged) (rw d at e) in
      (both.0, rw (drop-moved items next at item i) both.1)

  -- a value moved into a slot that is there is settled in it
  pub slots-moved :
      (items : List (Option T)) (slots next at : ℕ) (first : T) → slots ≤ next → next < length items → at < slots
      → take slots (moved items next at (Some first)) ≡ settled at first (take slots items)
  slots-moved items slots next at first h i j =
      let e = take-set-lt slots (slice_set items next None) at (Some first) j in
      let d = take-set-le slots items next None h in
      let n = length-take-le slots items (omega arith) in
      grind (arith, nat_tests)

  -- a value put behind a cut list is staged behind the others
  pub staged-push : (items : List (Option T)) (next : ℕ) (value : T) → next ≤ length items → filled (drop next (items ++ Some value ∷ [])) ≡ filled (drop next items) ++ value ∷ []
  staged-push items next value h = ap filled (drop-append-le next items (Some value ∷ []) h) ∙ filter_map-append (λ item. item) (drop next items) (Some value ∷ [])

  -- a list with a value put behind it is cut as before
  pub IsCut-push : (items : List (Option T)) (slots next : ℕ) (value : T) → IsCut items slots next → IsCut (items ++ Some value ∷ []) slots next
  IsCut-push items slots next value cut = record {
    order = cut.order;
    within = let w = cut.within in simp length-append (omega arith);
    room = λ k from below. get_or_append_left items (Some value ∷ []) None k (let w = cut.within in omega arith) ∙ cut.room k from below;
    staged =
        drop-append-le next items (Some value ∷ []) cut.within ∙ ap (λ (xs : List (Option T)). xs ++ Some value ∷ []) cut.staged
        ∙ sym (map-append Some (filled (drop next items)) (value ∷ [])) ∙ sym (ap (map Some) (staged-push items next value cut.within));
  }
