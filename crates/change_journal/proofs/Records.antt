-- The records of a journal, one after the other.
use Rattle.std.proofs.Common.{◌≡◌, ◌≢◌, ℕ, suc, ◌+◌, ◌<◌, ◌≤◌, List, [], ◌∷◌, ◌++◌, length, get_or, take, drop, refl, sym, ◌∙◌, ap, subst, arith, length-take, length-drop}
use Rattle.std.proofs.lemmas.List.{drop_more, drop_all, drop-drop}
use Rattle.std.specs.Prelude.{Some, Ok, Err}
use Rattle.std.specs.Option.{option_map}
use Rattle.change_journal.specs.Format.{Field, payload, bad_field, field_in, Walk, shut, broken, entry, walk_field, walk, payloads, end_of, look, opened, version_of, found_at, active_of, by_state, by_walk, by_end}
use Rattle.index_image.specs.Image.{state_at}
use Rattle.index_image.specs.Rows.{ImageData, image_view}
use Rattle.change_journal.specs.Fits.{Holds}
use Rattle.change_journal.specs.declared.opening.Opened.{Opened}
use Rattle.change_journal.proofs.Grow.{opened_as}
use Rattle.change_journal.specs.Opens.{behind, Stands}
use Rattle.change_journal.specs.declared.opening.StoredChange.{StoredChange}
use Rattle.change_journal.proofs.Walks.{walk_step, walk_skip, walk_shut}
use Rattle.change_journal.proofs.Looks.{looks}

pub behind_push : (changes : List StoredChange) (change : StoredChange) (w : Walk) → behind (changes ++ change ∷ []) w ≡ behind changes (entry change.place change.payload.items w)
behind_push [] change w = refl
behind_push (c ∷ changes) change w = ap (λ (v : Walk). entry c.place c.payload.items v) (behind_push changes change w)

-- in these bytes, from one on that stands at this place of a disk
module _ (bs : List ℕ) (at place n : ℕ) where
  pub records_end : length bs ≤ at → walk 0 place n (drop at bs) ≡ broken place
  unfolding walk
  records_end le = ap (λ (l : List ℕ). walk 0 place n l) (drop_all at bs le)

  module _ (within : at < length bs) where
    split : drop at bs ≡ get_or bs at 0 ∷ drop (at + 1) bs
    split = drop_more bs at 0 within

    pub records_shut : get_or bs at 0 ≡ 0 → walk 0 place n (drop at bs) ≡ shut place
    records_shut e = ap (λ (l : List ℕ). walk 0 place n l) (split ∙ ap (λ (b : ℕ). b ∷ drop (at + 1) bs) e) ∙ walk_shut place n (drop (at + 1) bs)

    opened_by : get_or bs at 0 ≢ 0 → walk 0 place n (drop at bs) ≡ walk_field place (field_in n (drop (at + 1) bs)) (λ size. walk (12 + size) (place + 1) (n + 1) (drop (at + 1) bs))
    opened_by ne = ap (λ (l : List ℕ). walk 0 place n l) split ∙ walk_step place n (get_or bs at 0) (drop (at + 1) bs) ne

    pub records_bad : (k : ℕ) → get_or bs at 0 ≢ 0 → field_in n (drop (at + 1) bs) ≡ bad_field k → walk 0 place n (drop at bs) ≡ broken (place + k)
    unfolding walk_field
    records_bad k ne e = opened_by ne ∙ ap (λ (f : Field). walk_field place f (λ size. walk (12 + size) (place + 1) (n + 1) (drop (at + 1) bs))) e

    pub records_step : (size : ℕ) → get_or bs at 0 ≢ 0 → field_in n (drop (at + 1) bs) ≡ payload (take size (drop 12 (drop (at + 1) bs))) → 12 + size ≤ length (drop (at + 1) bs)
        → walk 0 place n (drop at bs) ≡ entry (place + 13) (take size (drop (at + 13) bs)) (walk 0 (place + (13 + size)) (n + 1) (drop (at + (13 + size)) bs))
    unfolding walk_field
    records_step size ne e fits =
        let rest = drop (at + 1) bs in
        let bytes = take size (drop 12 rest) in
        let long : length bytes ≡ size = omega (arith, length-take size (drop 12 rest), length-drop 12 rest) in
        let next : place + 1 + (12 + length bytes) ≡ place + (13 + size) = omega (arith, long) in
        let behind_it : at + 1 + (12 + length bytes) ≡ at + (13 + size) = omega (arith, long) in
        let at_13 : at + 1 + 12 ≡ at + 13 = omega arith in
        opened_by ne
        ∙ ap (λ (f : Field). walk_field place f (λ size. walk (12 + size) (place + 1) (n + 1) rest)) e
        ∙ ap (λ (v : Walk). entry (place + 13) bytes v)
        (walk_skip (12 + length bytes) (place + 1) (n + 1) rest (omega (arith, long))
        ∙ ap (λ (l : List ℕ). walk 0 (place + 1 + (12 + length bytes)) (n + 1) l) (drop-drop (12 + length bytes) (at + 1) bs)
        ∙ ap (λ (i : ℕ). walk 0 i (n + 1) (drop (at + 1 + (12 + length bytes)) bs)) next
        ∙ ap (λ (i : ℕ). walk 0 (place + (13 + size)) (n + 1) (drop i bs)) behind_it)
        ∙ ap (λ (l : List ℕ). entry (place + 13) (take size l) (walk 0 (place + (13 + size)) (n + 1) (drop (at + (13 + size)) bs)))
        (drop-drop 12 (at + 1) bs ∙ ap (λ (i : ℕ). drop i bs) at_13)

-- the active disk

pub end_behind : (changes : List StoredChange) (w : Walk) → end_of (behind changes w) ≡ end_of w
end_behind [] w = refl
end_behind (c ∷ changes) w = end_behind changes w

pub count_behind : (changes : List StoredChange) (gate : ℕ) → length (payloads (behind changes (shut gate))) ≡ length changes
count_behind [] gate = refl
count_behind (c ∷ changes) gate = ap suc (count_behind changes gate)

pub fault_walk : (d g l : ℕ) (s : ImageData) (place : ℕ) (xs : List ℕ) (w : Walk) → state_at (take l (drop 24 xs)) ≡ Ok s → walk 0 (24 + l) s.changes (drop (24 + l) xs) ≡ w → end_of w ≡ Err place
    → active_of d g l xs ≡ Err (record { disk = d; place = place; found = found_at xs place })
unfolding active_of by_state by_walk by_end
fault_walk d g l s place xs w image e end =
    let im = take l (drop 24 xs) in
    ap (λ r. by_state d g l xs im r) image ∙ ap (λ (v : Walk). by_walk d g xs im s v) e ∙ ap (λ r. by_end d g xs im s w r) end

module _ (o : Opened) (d g l : ℕ) (s : ImageData) (xs : List ℕ) (e : look xs ≡ opened g l) (image : state_at (take l (drop 24 xs)) ≡ Ok s)
    (w : walk 0 (24 + l) s.changes (drop (24 + l) xs) ≡ behind o.changes.items (shut o.journal.gate)) where
  ends : end_of (walk 0 (24 + l) s.changes (drop (24 + l) xs)) ≡ Ok o.journal.gate
  ends = ap end_of w ∙ end_behind o.changes.items (shut o.journal.gate)

  pub opens : o.active ≡ d → option_map image_view o.image ≡ Some s → o.version ≡ version_of (take l (drop 24 xs)) → o.image_at ≡ 24 → 24 + l + o.journal.grown ≡ o.journal.gate + 1 → Stands o (active_of d g l xs)
  opens active rows version at grown = subst (λ r. Stands o r) (sym (opened_as d g l xs s o.journal.gate image ends)) (record {
    stored = record { active = d; generation = g; image = take l (drop 24 xs); state = s; records = walk 0 (24 + l) s.changes (drop (24 + l) xs); gate = o.journal.gate };
    is = refl;
    active = active;
    image = rows;
    version = version;
    image_at = at;
    changes = sym w;
    grown = let long = looks xs g l e in omega (arith, grown, length-take l (drop 24 xs), length-drop 24 xs, long.fits, long.size);
  })

  pub opens_holds : o.journal.generation ≡ g → o.journal.count ≡ s.changes + length o.changes.items → Holds o.journal xs
  opens_holds same count = record {
    size = l;
    state = s;
    looks = e ∙ ap (λ (k : ℕ). opened k l) (sym same);
    image = image;
    ends = ends;
    counts = omega (arith, count, ap (λ (v : Walk). length (payloads v)) w, count_behind o.changes.items o.journal.gate);
  }
