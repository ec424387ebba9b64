-- Pages, and the last page behind them.
use Rattle.std.proofs.Common.{◌≡◌, ℕ, suc, ◌+◌, ◌-◌, ◌<◌, ◌≤◌, Bool, true, false, not, ◌||◌, Vec, Option, None, Some, List, [], ◌∷◌, ◌++◌, length, take, drop, map, get_or, leb, refl, sym, ap, ap₂, subst, ◌∙◌, arith, append_assoc, append-nil}
use Rattle.std.specs.Bool.{OnTrue, OnFalse}
use Rattle.std.specs.declared.alloc.Global.{Global}
use Rattle.std.specs.List.{filter, concat, slice_get}
use Rattle.std.proofs.lemmas.Bool.{cond_both, ltb-true, ltb-false, le-ltb}
use Rattle.std.proofs.lemmas.List.{take-append-drop, length-append}
use Rattle.std.proofs.lemmas.List.Elements.{filter-append}
use Rattle.sorted_pages.specs.Entries.{has, AreAbove, IsIncreasing, AllBelow, union, difference}
use Rattle.sorted_pages.specs.Rooms.{Room, bound, is_before, AreBefore, AreBeyond, Fits}
use Rattle.sorted_pages.specs.Pages.{flat, items_at, rooms_of, room_of, AllFull, RestFull, IsRun, IsWhole, IsRest, IsCut}
use Rattle.sorted_pages.proofs.SetLemmas.{has-above}
use Rattle.sorted_pages.proofs.SplitLemmas.{has-append, or-false, below-nil, below-later, increasing-left, increasing-right, increasing-below, or-split, minus-split, length-or_least}
use Rattle.sorted_pages.proofs.RunLemmas.{before-none, full-drop}
use Rattle.sorted_pages.proofs.PageLemmas.{flat-append, flat-parts, before-head, filter-before, filter-before_not, filter-beyond, filter-beyond_not, fits-taken, fits-put, AllFrom, firsts_rest}
use Rattle.sorted_pages.proofs.ReadLemmas.{has-below, has-pages, from-pages, from-place, filter-below, filter-above}

-- what a test tells
pub from_true : (b : Bool) (P : Type 0) → OnTrue b P → b ≡ true → P
from_true true P h e = h
from_true false P h e = absurd (cc)

pub on_false : (b : Bool) (P : Type 0) → (b ≡ false → P) → OnFalse b P
on_false true P f = tt
on_false false P f = f refl

-- the first of a list
pub first_none : (xs : List ℕ) → slice_get xs 0 ≡ None → xs ≡ []
first_none [] e = refl
first_none (x ∷ xs) e = absurd (cc)

pub first_some : (xs : List ℕ) (v : ℕ) → slice_get xs 0 ≡ Some v → (0 < length xs) × (get_or xs 0 0 ≡ v)
first_some [] v e = absurd (cc)
first_some (x ∷ xs) v e = (omega arith, same e)
  where
    same : Some x ≡ Some v → x ≡ v
    same e = cc

pub beyond_zero : (xs : List ℕ) → AreBeyond (Some 0) xs
beyond_zero [] = tt
beyond_zero (x ∷ xs) = (le-ltb x 0 (omega arith), beyond_zero xs)

-- numbers below a page that begins below others
pub below_from : (xs last ys : List ℕ) → AllBelow xs last → (0 < length xs → 0 < length last) → IsIncreasing ys → get_or last 0 0 ≤ get_or ys 0 0 → AllBelow xs ys
below_from [] last ys b s k l = tt
below_from (x ∷ xs) last ys b s k l = below-later (x ∷ xs) last ys (s (omega arith)) b k l

below_over : (xs last ys : List ℕ) → AllBelow xs last → (0 < length xs → 0 < length last) → IsIncreasing ys → AreBeyond (Some (get_or last 0 0)) ys → AllBelow xs ys
below_over xs last [] b s k o = below-nil xs
below_over xs last (y ∷ ys) b s k o = below_from xs last (y ∷ ys) b s k (ltb-false y (get_or last 0 0) o.0)

module _ (ps : List (Vec ℕ Global)) (last : List ℕ) (whole : IsWhole ps last) where
  pub pages_up : IsIncreasing (flat ps)
  pages_up = increasing-left (flat ps) last whole.up

  pub last_up : IsIncreasing last
  last_up = increasing-right (flat ps) last whole.up

  pub pages_last : AllBelow (flat ps) last
  pages_last = increasing-below (flat ps) last whole.up

  pub below_least : (least : ℕ) → get_or last 0 0 ≤ least → AllBelow (flat ps) (least ∷ [])
  below_least least l = below_from (flat ps) last (least ∷ []) pages_last whole.some (tt, tt) l

  -- the reads, of the last page alone, and of a page before it
  pub has_last : (entry : ℕ) → AllBelow (flat ps) (entry ∷ []) → has (flat ps ++ last) entry ≡ has last entry
  has_last entry b = has-append (flat ps) last entry ∙ ap (λ h. h || has last entry) (has-below (flat ps) entry b)

  pub has_front : (at entry : ℕ) → IsRun ps 0 (entry ∷ []) at 1 → AreAbove entry last → has (flat ps ++ last) entry ≡ has (items_at ps at) entry
  has_front at entry run a =
      has-append (flat ps) last entry
      ∙ ap (λ h. has (flat ps) entry || h) (has-above entry entry last a (omega arith))
      ∙ or-false (has (flat ps) entry)
      ∙ has-pages ps at entry run whole.rest pages_up

  pub from_last : (least : ℕ) → AllBelow (flat ps) (least ∷ []) → filter (leb least) (flat ps ++ last) ≡ filter (leb least) last
  from_last least b = filter-append (leb least) (flat ps) last ∙ ap (λ (v : List ℕ). v ++ filter (leb least) last) (filter-below (flat ps) least b)

  pub from_front : (at least : ℕ) → IsRun ps 0 (least ∷ []) at 1 → AreAbove least last
      → filter (leb least) (flat ps ++ last) ≡ filter (leb least) (items_at ps at) ++ (flat (drop (at + 1) ps) ++ last)
  from_front at least run a =
      filter-append (leb least) (flat ps) last
      ∙ ap₂ (λ (u v : List ℕ). u ++ v) (from-pages ps at least run whole.rest pages_up) (filter-above last least a)
      ∙ append_assoc (filter (leb least) (items_at ps at)) (flat (drop (at + 1) ps)) last

  pub some_drop : (n : ℕ) → 0 < length (flat (drop n ps)) → 0 < length last
  some_drop n l =
      let same = ap length (flat-parts ps n) in
      whole.some (omega (arith, l, same, length-append (flat (take n ps)) (flat (drop n ps))))

-- from a number on, of a page and what is above the number behind it
pub seek_rest : (page rest : List ℕ) (least at : ℕ) → IsIncreasing page → AreAbove least rest → at ≤ length page → ((k : ℕ) → k + 1 ≡ at → get_or page k 0 < least) → (at < length page → least ≤ get_or page at 0)
    → drop at page ++ rest ≡ filter (leb least) (page ++ rest)
seek_rest page rest least at up a most low high =
    sym (filter-append (leb least) page rest ∙ ap₂ (λ (u v : List ℕ). u ++ v) (from-place page at least up most low high) (filter-above rest least a))

-- what stands behind a page whose last is not below a number
above_least : (a b : ℕ) (ys : List ℕ) → a ≤ b → AreAbove b ys → AreAbove a ys
above_least a b [] l h = tt
above_least a b (y ∷ ys) l h = (omega (arith, l, h.0), above_least a b ys l h.1)

pub above_behind : (page rest : List ℕ) (least : ℕ) → IsIncreasing (page ++ rest) → 0 < length page → least ≤ get_or page (length page - 1) 0 → AreAbove least rest
above_behind [] rest least up s l = absurd (omega (arith, s))
above_behind (x ∷ []) rest least up s l = above_least least x rest l up.0
above_behind (x ∷ (z ∷ page)) rest least up s l =
    let same : length (x ∷ (z ∷ page)) - 1 ≡ suc (length (z ∷ page) - 1) = omega arith in
    above_behind (z ∷ page) rest least up.1 (omega arith) (subst (λ (n : ℕ). least ≤ get_or (x ∷ (z ∷ page)) n 0) same l)

module _ (page : List ℕ) (later : List (Vec ℕ Global)) (last : List ℕ) (left : IsRest page later last) where
  pub rest_whole : IsWhole later last
  rest_whole = record { rest = full-drop later 1 left.full; some = left.some; up = increasing-right page (flat later ++ last) left.up }

  pub seek_behind : (least : ℕ) → AllBelow page (least ∷ []) → filter (leb least) (flat later ++ last) ≡ filter (leb least) (page ++ (flat later ++ last))
  seek_behind least b = sym (filter-append (leb least) page (flat later ++ last) ∙ ap (λ (v : List ℕ). v ++ filter (leb least) (flat later ++ last)) (filter-below page least b))

  pub seek_inside : (least at : ℕ) → 0 < length page → least ≤ get_or page (length page - 1) 0 → at ≤ length page → ((k : ℕ) → k + 1 ≡ at → get_or page k 0 < least) → (at < length page → least ≤ get_or page at 0)
      → drop at page ++ (flat later ++ last) ≡ filter (leb least) (page ++ (flat later ++ last))
  seek_inside least at s l = seek_rest page (flat later ++ last) least at (increasing-left page (flat later ++ last) left.up) (above_behind page (flat later ++ last) least left.up s l)

-- the first of what is left
pub first_later : (later : List (Vec ℕ Global)) (last : List ℕ) (v : ℕ) → AllFull later → bound (rooms_of later) ≡ Some v → Some v ≡ slice_get (flat later ++ last) 0
first_later [] last v full e = absurd (cc)
first_later (p ∷ ps) last v full e = first p.items full.0 e
  where
    first : (xs : List ℕ) → 0 < length xs → Some (get_or xs 0 0) ≡ Some v → Some v ≡ slice_get ((xs ++ flat ps) ++ last) 0
    first [] some e = absurd (omega (arith, some))
    first (x ∷ xs) some e = sym e

pub none_later : (later : List (Vec ℕ Global)) → bound (rooms_of later) ≡ None → flat later ≡ []
none_later [] e = refl
none_later (p ∷ ps) e = absurd (cc)

-- the parts of a list, one behind the other
pub concat_last : (ps : List (Vec ℕ Global)) (last : List ℕ) → concat (map (λ (p : Vec ℕ Global). p.items) ps ++ last ∷ []) ≡ flat ps ++ last
concat_last [] last = append-nil last
concat_last (p ∷ ps) last = ap (λ (v : List ℕ). p.items ++ v) (concat_last ps last) ∙ sym (append_assoc p.items (flat ps) last)

-- numbers that go in part to the pages before the last
some_or : (front xs back last : List ℕ) → (0 < length xs → 0 < length last) → AreBefore (Some (get_or last 0 0)) front → 0 < length (union front xs) → 0 < length (union back last)
some_or front xs back (y ∷ ys) s b l = omega (arith, length-or_least back (y ∷ ys))
some_or [] xs back [] s b l = absurd (omega (arith, s l))
some_or (x ∷ front) xs back [] s b l = absurd (omega (arith, ltb-true x 0 b.0))

module _ (ps : List (Vec ℕ Global)) (last front back : List ℕ) (whole : IsWhole ps last) (cut : IsCut ps last front back) (up : IsIncreasing back) where
  front_last : AllBelow front last
  front_last = before-head (get_or last 0 0) front last (last_up ps last whole) refl cut.taken

  pages_back' : (qs : List (Vec ℕ Global)) → AllBelow (flat qs) last → (0 < length (flat qs) → 0 < length last) → (0 < length qs → AreBeyond (Some (get_or last 0 0)) back) → AllBelow (flat qs) back
  pages_back' [] b s o = tt
  pages_back' (q ∷ qs) b s o = below_over (flat (q ∷ qs)) last back b s up (o (omega arith))

  pages_back : AllBelow (flat ps) back
  pages_back = pages_back' ps (pages_last ps last whole) whole.some cut.over

  pub cut_or : (come : List ℕ) → front ++ back ≡ come → IsIncreasing come → union front (flat ps) ++ union back last ≡ union come (flat ps ++ last)
  cut_or come e h =
      sym (or-split front back (flat ps) last (increasing-below front back (subst IsIncreasing (sym e) h)) front_last pages_back)
      ∙ ap (λ (v : List ℕ). union v (flat ps ++ last)) e

  pub cut_minus : (gone : List ℕ) → front ++ back ≡ gone → difference (flat ps) front ++ difference last back ≡ difference (flat ps ++ last) gone
  cut_minus gone e = sym (minus-split (flat ps) last front back pages_back front_last) ∙ ap (difference (flat ps ++ last)) e

  pub cut_some : 0 < length (union front (flat ps)) → 0 < length (union back last)
  cut_some = some_or front (flat ps) back last whole.some cut.taken

  -- they go to the pages and to the last as the rooms tell
  pub cut_from : (room : Room) → room.first ≡ get_or last 0 0 → 0 < length ps → AllFrom (drop 1 (rooms_of ps ++ room ∷ [])) back
  cut_from room e l =
      subst (λ (q : List (Vec ℕ Global)). AllFrom (drop 1 (rooms_of q ++ room ∷ [])) back) (take_whole ps)
      (firsts_rest ps (length ps) room back whole.rest
      (subst (λ (q : List (Vec ℕ Global)). AllBelow (flat q) back) (sym (take_whole ps)) pages_back)
      (λ m. subst (λ (k : ℕ). AreBeyond (Some k) back) (sym e) (cut.over l)))
    where
      take_whole : (qs : List (Vec ℕ Global)) → take (length qs) qs ≡ qs
      take_whole [] = refl
      take_whole (q ∷ qs) = ap (λ (v : List (Vec ℕ Global)). q ∷ v) (take_whole qs)

-- room in the pages and in the last
before_filter : (limit : Option ℕ) (p : ℕ → Bool) (xs : List ℕ) → AreBefore limit xs → AreBefore limit (filter p xs)
before_filter limit p [] h = tt
before_filter limit p (x ∷ xs) h = cond_both (p x) (x ∷ filter p xs) (filter p xs) (AreBefore limit) (λ _. (h.0, before_filter limit p xs h.1)) (λ _. before_filter limit p xs h.1)

kept_before : (first : ℕ) (front back : List ℕ) → AreBeyond (Some first) back → filter (is_before (Some first)) (front ++ back) ≡ filter (is_before (Some first)) front
kept_before first front back o =
    filter-append (is_before (Some first)) front back
    ∙ ap (λ (v : List ℕ). filter (is_before (Some first)) front ++ v) (filter-beyond (Some first) back o)
    ∙ append-nil (filter (is_before (Some first)) front)

left_beyond : (first : ℕ) (front back : List ℕ) → AreBeyond (Some first) back → filter (λ d. not (is_before (Some first) d)) (front ++ back) ≡ filter (λ d. not (is_before (Some first) d)) front ++ back
left_beyond first front back o =
    filter-append (λ d. not (is_before (Some first) d)) front back
    ∙ ap (λ (v : List ℕ). filter (λ d. not (is_before (Some first) d)) front ++ v) (filter-beyond_not (Some first) back o)

pub one_fits : (r : Room) (xs : List ℕ) → length xs ≤ r.spare → Fits (r ∷ []) xs
one_fits r xs l = (subst (λ (v : List ℕ). length v ≤ r.spare) (sym (filter-before None xs (before-none xs))) l, filter-before_not None xs (before-none xs))

pub one_spare : (r : Room) (xs : List ℕ) → Fits (r ∷ []) xs → length xs ≤ r.spare
one_spare r xs f = subst (λ (v : List ℕ). length v ≤ r.spare) (filter-before None xs (before-none xs)) f.0

fits_joined : (s : Room) (rooms : List Room) (r : Room) (front back : List ℕ) → AllFrom (rooms ++ r ∷ []) back → AreBefore (Some r.first) front → Fits (s ∷ rooms) front → length back ≤ r.spare
    → Fits (s ∷ (rooms ++ r ∷ [])) (front ++ back)
fits_joined s [] r front back a b f l = fits-put s (r ∷ []) front back b a.0 (one_spare s front f) (one_fits r back l)
fits_joined s (t ∷ rooms) r front back a b f l = (
  subst (λ (v : List ℕ). length v ≤ s.spare) (sym (kept_before t.first front back a.0)) f.0,
  subst (Fits (t ∷ (rooms ++ r ∷ []))) (sym (left_beyond t.first front back a.0))
      (fits_joined t rooms r (filter (λ d. not (is_before (Some t.first) d)) front) back a.1 (before_filter (Some r.first) (λ d. not (is_before (Some t.first) d)) front b) f.1 l),
)

fits_parted : (s : Room) (rooms : List Room) (r : Room) (front back : List ℕ) → AllFrom (rooms ++ r ∷ []) back → AreBefore (Some r.first) front → Fits (s ∷ (rooms ++ r ∷ [])) (front ++ back)
    → Fits (s ∷ rooms) front × (length back ≤ r.spare)
fits_parted s [] r front back a b f =
    let each = fits-taken s (r ∷ []) front back b a.0 f in
    (one_fits s front each.0, one_spare r back each.1)
fits_parted s (t ∷ rooms) r front back a b f =
    let rest = fits_parted t rooms r (filter (λ d. not (is_before (Some t.first) d)) front) back a.1 (before_filter (Some r.first) (λ d. not (is_before (Some t.first) d)) front b)
    (subst (Fits (t ∷ (rooms ++ r ∷ []))) (left_beyond t.first front back a.0) f.1) in
    ((subst (λ (v : List ℕ). length v ≤ s.spare) (kept_before t.first front back a.0) f.0, rest.0), rest.1)

pub fits_split : (ps : List (Vec ℕ Global)) (r : Room) (front back : List ℕ) → (length ps ≡ 0 → front ≡ []) → (0 < length ps → AllFrom (drop 1 (rooms_of ps ++ r ∷ [])) back) → AreBefore (Some r.first) front
    → Fits (rooms_of ps ++ r ∷ []) (front ++ back) → Fits (rooms_of ps) front × (length back ≤ r.spare)
fits_split [] r front back z a b f = (z refl, one_spare r back (subst (λ (v : List ℕ). Fits (r ∷ []) (v ++ back)) (z refl) f))
fits_split (p ∷ ps) r front back z a b f = fits_parted (room_of p) (rooms_of ps) r front back (a (omega arith)) b f

pub fits_join : (ps : List (Vec ℕ Global)) (r : Room) (front back : List ℕ) → (length ps ≡ 0 → front ≡ []) → (0 < length ps → AllFrom (drop 1 (rooms_of ps ++ r ∷ [])) back) → AreBefore (Some r.first) front
    → Fits (rooms_of ps) front → length back ≤ r.spare → Fits (rooms_of ps ++ r ∷ []) (front ++ back)
fits_join [] r front back z a b f l = subst (λ (v : List ℕ). Fits (r ∷ []) (v ++ back)) (sym (z refl)) (one_fits r back l)
fits_join (p ∷ ps) r front back z a b f l = fits_joined (room_of p) (rooms_of ps) r front back (a (omega arith)) b f l

-- a last page alone
pub alone : (last : List ℕ) → IsIncreasing last → IsWhole [] last
alone last up = record { rest = tt; some = λ l. absurd (omega (arith, l)); up = up }

-- pages and a last page, by what they have
pub whole_same : (ps qs : List (Vec ℕ Global)) (last last' : List ℕ) → RestFull qs → flat qs ≡ flat ps → last' ≡ last → IsWhole ps last → IsWhole qs last'
whole_same ps qs last last' rest e f whole = record {
  rest = rest;
  some = λ l. subst (λ (v : List ℕ). 0 < length v) (sym f) (whole.some (subst (λ (v : List ℕ). 0 < length v) e l));
  up = subst IsIncreasing (sym (ap₂ (λ (u v : List ℕ). u ++ v) e f)) whole.up;
}

pub cut_same : (ps qs : List (Vec ℕ Global)) (last last' front back : List ℕ) → length qs ≡ length ps → last' ≡ last → IsCut ps last front back → IsCut qs last' front back
cut_same ps qs last last' front back e f cut = record {
  none = λ z. cut.none (omega (arith, z, e));
  taken = subst (λ (v : List ℕ). AreBefore (Some (get_or v 0 0)) front) (sym f) cut.taken;
  over = λ l. subst (λ (v : List ℕ). AreBeyond (Some (get_or v 0 0)) back) (sym f) (cut.over (omega (arith, l, e)));
}

pub cut_front : (ps : List (Vec ℕ Global)) (last front back : List ℕ) → IsCut ps last front back → 0 < length front → 0 < length ps
cut_front [] last front back cut l = absurd (omega (arith, l, ap length (cut.none refl)))
cut_front (p ∷ ps) last front back cut l = omega arith

-- a page that is taken from the end
pub popped : (qs : List (Vec ℕ Global)) (p : Vec ℕ Global) → RestFull (qs ++ p ∷ []) → RestFull qs × (0 < length (flat qs) → 0 < length p.items)
popped [] p h = (tt, λ l. absurd (omega (arith, l)))
popped (q ∷ qs) p h = let each = last_full qs h in (each.0, λ l. each.1)
  where
    last_full : (qs : List (Vec ℕ Global)) → AllFull (qs ++ p ∷ []) → AllFull qs × (0 < length p.items)
    last_full [] h = (tt, h.0)
    last_full (q ∷ qs) h = let each = last_full qs h.1 in ((h.0, each.0), each.1)

pub flat_popped : (qs : List (Vec ℕ Global)) (p : Vec ℕ Global) → flat (qs ++ p ∷ []) ≡ flat qs ++ p.items
flat_popped qs p = flat-append qs (p ∷ []) ∙ ap (λ (v : List ℕ). flat qs ++ v) (append-nil p.items)

-- pages that are put to the end
pub full_append : (ps qs : List (Vec ℕ Global)) → AllFull ps → AllFull qs → AllFull (ps ++ qs)
full_append [] qs h k = k
full_append (p ∷ ps) qs h k = (h.0, full_append ps qs h.1 k)

pub rest_append : (ps qs : List (Vec ℕ Global)) → RestFull ps → AllFull qs → RestFull (ps ++ qs)
rest_append [] [] h k = tt
rest_append [] (q ∷ qs) h k = k.1
rest_append (p ∷ ps) qs h k = full_append ps qs h k

pub cut_off : (ps made : List (Vec ℕ Global)) (last tail : List ℕ) (n : ℕ) → flat made ≡ take n last → tail ≡ drop n last → flat (ps ++ made) ++ tail ≡ flat ps ++ last
cut_off ps made last tail n f b =
    ap₂ (λ (u v : List ℕ). u ++ v) (flat-append ps made ∙ ap (λ (v : List ℕ). flat ps ++ v) f) b
    ∙ append_assoc (flat ps) (take n last) (drop n last)
    ∙ ap (λ (v : List ℕ). flat ps ++ v) (take-append-drop n last)
