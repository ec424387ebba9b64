-- The version of the active image, and its generation.
use Rattle.std.proofs.Common.{◌≡◌, ◌≢◌, ◌⊎◌, inl, inr, ℕ, ◌+◌, ◌-◌, ◌<◌, ◌^◌, true, eqb, List, [], ◌∷◌, length, refl, sym, ◌∙◌, ap, subst, arith, Option, Some, None, Result, Ok, Err}
use Rattle.std.proofs.lemmas.Bool.{eqb-true, or_cases}
use Rattle.std.specs.Option.{is_some, option_map}
use Rattle.std.specs.Prelude.{MatchOption, ◌||◌}
use Rattle.outside_io.specs.Disks.{Contents, fresh}
use Rattle.change_payloads.specs.Change.{Spot as PayloadSpot, or_spot}
use Rattle.change_payloads.specs.Fields.{◌>>=◌}
use Rattle.change_payloads.proofs.Found.{guard_ended}
use Rattle.index_image.specs.Image.{state_at, version_at, whole_image}
use Rattle.index_image.specs.Rows.{ImageData, image_view}
use Rattle.index_image.specs.State.{IsState}
use Rattle.index_image.specs.declared.rows.ImageRows.{ImageRows}
use Rattle.change_journal.specs.Format.{Walk, Pair, Spot, Stored, active_of, by_end, by_state, by_walk, pair_in, stored, stored_pair, version_of}
use Rattle.change_journal.specs.Fits.{BothTold, Fits, FitsAt, IsSettled, StandsFor, grown, image_pair}
use Rattle.change_journal.specs.Opens.{IsReady, Stands}
use Rattle.change_journal.specs.Shut.{is_told}
use Rattle.change_journal.specs.declared.journal.Journal.{Journal}
use Rattle.change_journal.specs.declared.journal.Side.TheVariants.{A, B}
use Rattle.change_journal.specs.declared.journal.Side.{Side}
use Rattle.change_journal.specs.declared.opening.Opened.{Opened}
use Rattle.change_journal.proofs.Looks.{alone_is, first_active, second_active}
use Rattle.durable_machine.specs.Durable.{IsMigrated, IsToBeMade}
use Rattle.durable_machine.specs.Reopened.{IsCurrent, IsOld}
use Rattle.durable_machine.proofs.Crash.{now_stand}
use Rattle.durable_machine.proofs.Runs.{Reads, reads}
use Rattle.durable_machine.proofs.Sides.{both_from, both_to}
use Rattle.durable_machine.proofs.Syncs.{ready_active}

-- ---- an image has one of two versions

abbrev HasVersion : List ℕ → Type 0
HasVersion bytes = (version_of bytes ≡ 1) ⊎ (version_of bytes ≡ 2)

either : (byte : ℕ) → (eqb byte 1 ≡ true) ⊎ (eqb byte 2 ≡ true) → (byte ≡ 1) ⊎ (byte ≡ 2)
either byte (inl one) = inl (eqb-true byte 1 one)
either byte (inr two) = inr (eqb-true byte 2 two)

version_read : (bytes : List ℕ) (v : ℕ × List ℕ) → version_at bytes ≡ Ok v → HasVersion bytes
unfolding version_at
version_read [] v e = absurd (cc (e))
version_read (byte ∷ rest) v e =
    let test = guard_ended (eqb byte 1 || eqb byte 2) (length (byte ∷ rest)) (byte, rest) v e in
    either byte (or_cases (eqb byte 1) (eqb byte 2) test.0)

first_read : {A B : Type 0} (r : Result A ℕ) (f : A → Result B ℕ) (y : B) → (r >>= f) ≡ Ok y → (x : A) × (r ≡ Ok x)
first_read (Ok x) f y e = (x, refl)
first_read (Err left) f y e = absurd (cc (e))

whole_version : (bytes : List ℕ) (s : ImageData) → whole_image bytes ≡ Ok s → HasVersion bytes
unfolding whole_image
whole_version bytes s e = let v = first_read (version_at bytes) _ s e in version_read bytes v.0 v.1

spot_version : (bytes : List ℕ) (r : Result ImageData ℕ) (s : ImageData) → whole_image bytes ≡ r → or_spot bytes r ≡ Ok s → HasVersion bytes
spot_version bytes (Ok t) s is e = whole_version bytes t is
spot_version bytes (Err left) s is e = absurd (cc (e))

image_version : (bytes : List ℕ) (s : ImageData) → state_at bytes ≡ Ok s → HasVersion bytes
image_version bytes s e = spot_version bytes (whole_image bytes) s refl e

-- ---- generations

-- where a disk is open, it has this generation
abbrev IsAt : ℕ → Result (Option Stored) Spot → Type 0
IsAt g (Ok None) = Unit {0}
IsAt g (Ok (Some s)) = s.generation ≡ g
IsAt g (Err spot) = Unit {0}

end_at : (d g : ℕ) (xs image : List ℕ) (s : ImageData) (w : Walk) (end : Result ℕ ℕ) → IsAt g (by_end d g xs image s w end)
unfolding by_end
end_at d g xs image s w (Ok gate) = refl
end_at d g xs image s w (Err place) = tt

image_at : (d g l : ℕ) (xs image : List ℕ) (r : Result ImageData PayloadSpot) → IsAt g (by_state d g l xs image r)
unfolding by_state by_walk
image_at d g l xs image (Ok s) = end_at d g xs image s _ _
image_at d g l xs image (Err spot) = tt

active_at : (d g l : ℕ) (xs : List ℕ) → IsAt g (active_of d g l xs)
unfolding active_of
active_at d g l xs = image_at d g l xs _ _

-- that of the journal which goes on there
side_at : (side : Option Side) (j : Journal) (xs ys : List ℕ) → FitsAt side j (Some (fresh xs)) (Some (fresh ys)) → side ≢ None → IsAt j.generation (stored xs ys)
side_at None j xs ys fits some = absurd (some refl)
side_at (Some A) j xs ys (holds, older) some =
    let is = first_active xs ys j.generation holds.size holds.looks older ∙ alone_is 0 j.generation holds.size xs holds.looks in
    subst (IsAt j.generation) (sym is) (active_at 0 j.generation holds.size xs)
side_at (Some B) j xs ys (holds, older) some =
    let is = second_active xs ys j.generation holds.size holds.looks older ∙ alone_is 1 j.generation holds.size ys holds.looks in
    subst (IsAt j.generation) (sym is) (active_at 1 j.generation holds.size ys)

fits_at : (j : Journal) (a b : Option Contents) (xs ys : List ℕ) → Fits j a b → j.active ≢ None → a ≡ Some (fresh xs) → b ≡ Some (fresh ys) → IsAt j.generation (stored xs ys)
fits_at j a b xs ys fits active is_a is_b =
    side_at j.active j xs ys (subst (λ p. FitsAt j.active j p (Some (fresh ys))) is_a (subst (λ q. FitsAt j.active j a q) is_b fits.disks)) active

-- ---- what was opened

image_some : (o : Opened) (s : ImageData) → option_map image_view o.image ≡ Some s → is_some o.image ≡ true
image_some o s e = some_of o.image e
  where
    some_of : (image : Option ImageRows) → option_map image_view image ≡ Some s → is_some image ≡ true
    some_of None e = absurd (cc (e))
    some_of (Some rows) e = refl

some_image : (image : Option ImageRows) → image ≢ None → is_some image ≡ true
some_image None some = absurd (some refl)
some_image (Some rows) some = refl

not_none : (o : Opened) (s : ImageData) → option_map image_view o.image ≡ Some s → o.image ≢ None
not_none o s e none = absurd (cc (sym e ∙ ap (option_map image_view) none))

opened_at : (o : Opened) (a b : Option Contents) (xs ys : List ℕ) (r : Result (Option Stored) Spot) → IsReady o → Fits o.journal a b → a ≡ Some (fresh xs) → b ≡ Some (fresh ys)
    → stored xs ys ≡ r → Stands o r → IsAt o.journal.generation r
opened_at o a b xs ys (Ok None) ready fits is_a is_b e stands = tt
opened_at o a b xs ys (Err spot) ready fits is_a is_b e stands = tt
opened_at o a b xs ys (Ok (Some s)) ready fits is_a is_b e stands =
    let active = ready_active o (image_some o stands.stored.state stands.image) ready in
    subst (IsAt o.journal.generation) e (fits_at o.journal a b xs ys fits active is_a is_b)

stands_version : (o : Opened) (s : Stored) → Stands o (Ok (Some s)) → o.version ≡ version_of s.image
stands_version o s stands =
    let same : stands.stored ≡ s = cc (stands.is) in
    stands.version ∙ ap (λ (q : Stored). version_of q.image) same

current_by : (o : Opened) (r : Result (Option Stored) Spot) → IsCurrent o → Stands o r → IsAt o.journal.generation r → IsMigrated r
current_by o (Err spot) current stands at = absurd stands
current_by o (Ok None) current stands at = absurd (current.0 stands.image)
current_by o (Ok (Some s)) (some, inl two) stands at = inl (sym (stands_version o s stands) ∙ two)
current_by o (Ok (Some s)) (some, inr last) stands at = inr (at ∙ last)

old_by : (o : Opened) (r : Result (Option Stored) Spot) → ((s : Stored) → r ≡ Ok (Some s) → Reads s) → IsOld o → Stands o r → IsAt o.journal.generation r → IsToBeMade r
old_by o (Err spot) read old stands at = absurd stands
old_by o (Ok None) read old stands at = tt
old_by o (Ok (Some s)) read (inl none) stands at = absurd (not_none o stands.stored.state stands.image none)
old_by o (Ok (Some s)) read (inr (other, few)) stands at = first_of (image_version s.image s.state (read s refl).state)
  where
    first_of : HasVersion s.image → (version_of s.image ≡ 1) × (s.generation < 2 ^ 64 - 1)
    first_of (inl one) = (one, omega (arith, at, few))
    first_of (inr two) = absurd (other (stands_version o s stands ∙ two))

module _ (o : Opened) (a b : Option Contents) (xs ys : List ℕ) (ready : IsReady o) (fits : Fits o.journal a b) (is_a : a ≡ Some (fresh xs)) (is_b : b ≡ Some (fresh ys)) (stands : Stands o (stored xs ys)) where
  pub current_migrated : IsCurrent o → IsMigrated (stored xs ys)
  current_migrated current = current_by o (stored xs ys) current stands (opened_at o a b xs ys (stored xs ys) ready fits is_a is_b refl stands)

  pub old_to_be_made : IsOld o → IsToBeMade (stored xs ys)
  old_to_be_made old = old_by o (stored xs ys) (reads xs ys) old stands (opened_at o a b xs ys (stored xs ys) ready fits is_a is_b refl stands)

pub current_active : (o : Opened) → IsCurrent o → IsReady o → o.journal.active ≢ None
current_active o current ready = ready_active o (some_image o.image current.0) ready

-- where no disk was open, none is active
none_active : (image : Option ImageRows) (none : Type 0) (some : ImageRows → Type 0) → image ≡ None → MatchOption image none some → none
none_active None none some e ready = ready
none_active (Some rows) none some e ready = absurd (cc (e))

pub ready_none : (o : Opened) → o.image ≡ None → IsReady o → o.journal.active ≡ None
ready_none o none ready =
    (none_active o.image ((o.journal.active ≡ None) × (o.journal.count ≡ 0)) (λ rows. (o.journal.active ≢ None) × IsState (image_view rows) × (o.journal.count ≡ rows.changes + length o.changes.items)) none ready).0

-- and there is a generation left
pub old_few : (o : Opened) (a b : Option Contents) → IsReady o → Fits o.journal a b → IsOld o → o.journal.generation < 2 ^ 64 - 1
old_few o a b ready fits (inl none) =
    let none_at = subst (λ (side : Option Side). FitsAt side o.journal a b) (ready_none o none ready) fits.disks in
    omega (arith, none_at.2)
old_few o a b ready fits (inr (other, few)) = few

-- ---- a change, and an image, recorded

abbrev image_in : Result Pair Spot → Option (List ℕ)
image_in (Ok p) = p.image
image_in (Err spot) = None

grown_by : (bytes : List ℕ) (g : ℕ) (r q : Result (Option Stored) Spot) → pair_in q ≡ grown bytes (pair_in r) → IsAt g r → IsAt g q → IsMigrated r → IsMigrated q
grown_by bytes g (Err spot) q e at now was = absurd was
grown_by bytes g (Ok None) q e at now was = absurd was
grown_by bytes g (Ok (Some s)) (Err spot) e at now was = absurd (cc (e))
grown_by bytes g (Ok (Some s)) (Ok None) e at now was = absurd (cc (ap image_in e))
grown_by bytes g (Ok (Some s)) (Ok (Some t)) e at now (inl two) =
    let same : t.image ≡ s.image = cc (ap image_in e) in
    inl (ap version_of same ∙ two)
grown_by bytes g (Ok (Some s)) (Ok (Some t)) e at now (inr last) = inr (now ∙ sym at ∙ last)

image_by : (image : List ℕ) (payloads : List (List ℕ)) (q : Result (Option Stored) Spot) → pair_in q ≡ Ok (image_pair image payloads) → version_of image ≡ 2 → IsMigrated q
image_by image payloads (Err spot) e two = absurd (cc (e))
image_by image payloads (Ok None) e two = absurd (cc (ap image_in e))
image_by image payloads (Ok (Some t)) e two =
    let same : t.image ≡ image = cc (ap image_in e) in
    inl (ap version_of same ∙ two)

-- two disks before a call and after it
module _ (a0 b0 a1 b1 : Option Contents) (alike_a : is_told a1 ≡ is_told a0) (alike_b : is_told b1 ≡ is_told b0) (calm_a : IsSettled a0) (calm_b : IsSettled b0) (now_a : IsSettled a1) (now_b : IsSettled b1) where
  pub change_migrated : (bytes : List ℕ) (i j : Journal) → ((a b : List ℕ) → a0 ≡ Some (fresh a) → b0 ≡ Some (fresh b) → StandsFor a1 b1 (grown bytes (stored_pair a b)))
      → Fits i a0 b0 → Fits j a1 b1 → i.active ≢ None → j.active ≡ i.active → j.generation ≡ i.generation
      → BothTold a0 b0 (λ xs ys. IsMigrated (stored xs ys)) → BothTold a1 b1 (λ xs ys. IsMigrated (stored xs ys))
  change_migrated bytes i j now fits new_fits active same generation was = both_from a1 b1 (λ xs ys. IsMigrated (stored xs ys)) now_a now_b (λ xs ys is_a is_b.
      let (a, b, was_a, was_b, stands) = now_stand a0 b0 a1 b1 alike_a alike_b calm_a calm_b (grown bytes) now xs ys is_a is_b in
      let new_at = fits_at j a1 b1 xs ys new_fits (λ e. active (sym same ∙ e)) is_a is_b in
      grown_by bytes i.generation (stored a b) (stored xs ys) stands (fits_at i a0 b0 a b fits active was_a was_b) (subst (λ (g : ℕ). IsAt g (stored xs ys)) generation new_at)
      (both_to a0 b0 (λ xs ys. IsMigrated (stored xs ys)) a b was was_a was_b))

  pub image_migrated : (image : List ℕ) (payloads : List (List ℕ)) → ((a b : List ℕ) → a0 ≡ Some (fresh a) → b0 ≡ Some (fresh b) → StandsFor a1 b1 (Ok (image_pair image payloads)))
      → version_of image ≡ 2 → BothTold a1 b1 (λ xs ys. IsMigrated (stored xs ys))
  image_migrated image payloads now two = both_from a1 b1 (λ xs ys. IsMigrated (stored xs ys)) now_a now_b (λ xs ys is_a is_b.
      let was = now_stand a0 b0 a1 b1 alike_a alike_b calm_a calm_b (λ r. Ok (image_pair image payloads)) now xs ys is_a is_b in
      image_by image payloads (stored xs ys) was.4 two)
