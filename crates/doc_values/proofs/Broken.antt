-- The first broken number of a walk, and no broken number is no float.
use Rattle.std.proofs.Common.{◌≡◌, ℕ, List, [], ◌∷◌, ◌++◌, Bool, true, false, Option, Some, None, cond, refl, sym, ◌∙◌}
use Rattle.std.proofs.lemmas.Bool.{or_parts}
use Rattle.serde_json.specs.Data.{Data, null, boolean, number, string, array, object, Items, no_items, item, Members, no_members, member}
use Rattle.serde_json.specs.Written.{has_float, items_have_float, members_have_float}
use Rattle.search_base.specs.Trying.{first_of}
use Rattle.doc_values.specs.declared.document.DocumentRefusal.{DocumentRefusal}
use Rattle.doc_values.specs.declared.document.DocumentRefusal.TheVariants.{NumberNotWhole}
use Rattle.doc_values.specs.Walk.{Visit, path_of, walk_of_members, walk_inside, walk_inside_items, holds_float, items_hold_float, first_broken}

-- ---- the first broken number

pub first_broken_append : (a b : List Visit) → first_broken (a ++ b) ≡ first_of (first_broken a) (first_broken b)
first_broken_append [] b = refl
first_broken_append (visit ∷ a) b =
    let this = Some (NumberNotWhole visit.path) in
    elim (holds_float visit.value) as (λ h. cond h this (first_broken (a ++ b)) ≡ first_of (cond h this (first_broken a)) (first_broken b)) [
      | true ↦ refl
      | false ↦ first_broken_append a b
    ]

-- ---- no broken number is no float

neither : (a b : Option DocumentRefusal) → first_of a b ≡ None → (a ≡ None) × (b ≡ None)
neither None b h = (refl, h)
neither (Some refusal) b h = cc

cond_none : (h : Bool) (refusal : DocumentRefusal) (later : Option DocumentRefusal) → cond h (Some refusal) later ≡ None → (h ≡ false) × (later ≡ None)
cond_none true refusal later e = cc
cond_none false refusal later e = (refl, e)

-- no float directly, and none in the members inside
mutual
  has_float-from_parts : (path : List ℕ) (d : Data) → holds_float d ≡ false → first_broken (walk_inside path d) ≡ None → has_float d ≡ false
  has_float-from_parts path null h w = refl
  has_float-from_parts path (boolean b) h w = refl
  has_float-from_parts path (number n) h w = h
  has_float-from_parts path (string s) h w = refl
  has_float-from_parts path (array ds) h w = items_have_float-from_parts path ds h w
  has_float-from_parts path (object ms) h w = members_have_float-from_walk (Some path) ms w

  items_have_float-from_parts : (path : List ℕ) (ds : Items) → items_hold_float ds ≡ false → first_broken (walk_inside_items path ds) ≡ None → items_have_float ds ≡ false
  items_have_float-from_parts path no_items h w = refl
  items_have_float-from_parts path (item d ds) h w =
      let held = or_parts (holds_float d) _ h in
      let found = neither _ _ (sym (first_broken_append (walk_inside path d) (walk_inside_items path ds)) ∙ w) in
      rw (has_float-from_parts path d held.0 found.0) (items_have_float-from_parts path ds held.1 found.1)

  pub members_have_float-from_walk : (above : Option (List ℕ)) (ms : Members) → first_broken (walk_of_members above ms) ≡ None → members_have_float ms ≡ false
  members_have_float-from_walk above no_members w = refl
  members_have_float-from_walk above (member k d ms) w =
      let path = path_of above k in
      let parts = cond_none (holds_float d) (NumberNotWhole path) _ w in
      let found = neither _ _ (sym (first_broken_append (walk_inside path d) (walk_of_members above ms)) ∙ parts.1) in
      rw (has_float-from_parts path d parts.0 found.0) (members_have_float-from_walk above ms found.1)

mutual
  holds_float-none : (d : Data) → has_float d ≡ false → holds_float d ≡ false
  holds_float-none null h = refl
  holds_float-none (boolean b) h = refl
  holds_float-none (number n) h = h
  holds_float-none (string s) h = refl
  holds_float-none (array ds) h = items_hold_float-none ds h
  holds_float-none (object ms) h = refl

  items_hold_float-none : (ds : Items) → items_have_float ds ≡ false → items_hold_float ds ≡ false
  items_hold_float-none no_items h = refl
  items_hold_float-none (item d ds) h =
      let parts = or_parts (has_float d) _ h in
      rw (holds_float-none d parts.0) (items_hold_float-none ds parts.1)

mutual
  walk_inside-none : (path : List ℕ) (d : Data) → has_float d ≡ false → first_broken (walk_inside path d) ≡ None
  walk_inside-none path null h = refl
  walk_inside-none path (boolean b) h = refl
  walk_inside-none path (number n) h = refl
  walk_inside-none path (string s) h = refl
  walk_inside-none path (array ds) h = walk_inside_items-none path ds h
  walk_inside-none path (object ms) h = walk_of_members_none (Some path) ms h

  walk_inside_items-none : (path : List ℕ) (ds : Items) → items_have_float ds ≡ false → first_broken (walk_inside_items path ds) ≡ None
  walk_inside_items-none path no_items h = refl
  walk_inside_items-none path (item d ds) h =
      let parts = or_parts (has_float d) _ h in
      rw (first_broken_append (walk_inside path d) (walk_inside_items path ds), walk_inside-none path d parts.0) (walk_inside_items-none path ds parts.1)

  pub walk_of_members_none : (above : Option (List ℕ)) (ms : Members) → members_have_float ms ≡ false → first_broken (walk_of_members above ms) ≡ None
  walk_of_members_none above no_members h = refl
  walk_of_members_none above (member k d ms) h =
      let parts = or_parts (has_float d) _ h in
      rw (holds_float-none d parts.0, first_broken_append (walk_inside (path_of above k) d) (walk_of_members above ms), walk_inside-none (path_of above k) d parts.0) (walk_of_members_none above ms parts.1)
