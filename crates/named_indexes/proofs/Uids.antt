-- A change leaves the uids of indexes in order, and no more than there may be.
use Rattle.std.proofs.Common.{◌≡◌, ℕ, suc, ◌+◌, ◌≤◌, List, [], ◌∷◌, ◌++◌, length, map, Bool, true, false, cond, ◌&&◌, Option, Some, None, is_none, is_some, unwrap_or, Result, Ok, Err, refl, sym, ap, subst, ◌∙◌, arith}
use Rattle.std.specs.Prelude.{nat_le}
use Rattle.std.specs.declared.cmp.Ordering.{Ordering}
use Rattle.std.specs.declared.cmp.Ordering.TheVariants.{Less, Equal, Greater}
use Rattle.std.specs.Cmp.{IsTotalOrder}
use Rattle.std.specs.Cmp.Lexicographic.{slice_cmp, nat_list_cmp_total}
use Rattle.std.specs.Ordering.{nat_cmp, match_ordering, ordering_reverse}
use Rattle.std.specs.Map.{keys_of, remove_entry}
use Rattle.std.specs.BTreeMap.{insert_entry, is_at}
use Rattle.std.specs.List.{AllByRecursion}
use Rattle.std.specs.List.Sorted.{IsStrictlySortedBy}
use Rattle.std.proofs.lemmas.Bool.{leb-false}
use Rattle.std.proofs.lemmas.List.{length-map}
use Rattle.std.proofs.lemmas.Map.{keys-set_value}
use Rattle.std.proofs.lemmas.Map.Entries.{length-keys_of}
use Rattle.search_base.specs.Trying.{◌>>=◌, ◌>>◌, refuse_if, or_refuse, refused_as}
use Rattle.document_changes.specs.Changes.{KindData, create, drop_index, replace, update, remove, clear, patch, reset}
use Rattle.doc_values.specs.Ids.{is_uid}
use Rattle.index_image.specs.declared.rows.ImageIndex.{ImageIndex}
use Rattle.index_image.specs.Rows.{IndexData, index_view}
use Rattle.index_image.specs.State.{EachAfter, IsIndex}
use Rattle.index_changes.specs.Index.{Index, empty_index}
use Rattle.index_changes.specs.Plans.{planned, applied}
use Rattle.queued_changes.specs.Machine.{left_in}
use Rattle.named_indexes.specs.Indexes.{Indexes, AreUids, index_at, with_index, without_index, is_full, most_indexes}
use Rattle.named_indexes.specs.Changes.{row_in, index_after, created, dropped, filled, emptied, indexes_after}
use Rattle.named_indexes.specs.Images.{entry_of}
use Rattle.named_indexes.specs.Inside.{after_kinds}
use Rattle.named_indexes.proofs.Maps.{set_value-insert}

-- ---- sorted entries

module _ {K : Type 0} (cmp : K → K → Ordering) (o : IsTotalOrder cmp) where
  all_above : (k l : K) (ks : List K) → cmp k l ≡ Less → AllByRecursion (λ y. cmp l y ≡ Less) ks → AllByRecursion (λ y. cmp k y ≡ Less) ks
  all_above k l [] below h = tt
  all_above k l (y ∷ ks) below h = (o.trans k l y below h.0, all_above k l ks below h.1)

all_inserted : {K X : Type 0} (cmp : K → K → Ordering) (P : K → Type 0) (k : K) (v : X) (es : List (K × X)) → P k → AllByRecursion P (keys_of es) → AllByRecursion P (keys_of (insert_entry cmp es k v))
all_inserted cmp P k v [] p h = (p, tt)
all_inserted cmp P k v (e ∷ es) p h = by (cmp k e.0) (all_inserted cmp P k v es p h.1)
  where
    by : (a : Ordering) → AllByRecursion P (keys_of (insert_entry cmp es k v)) → AllByRecursion P (keys_of (match_ordering a ((k, v) ∷ e ∷ es) ((e.0, v) ∷ es) (e ∷ insert_entry cmp es k v)))
    by Less rest = (p, h)
    by Equal rest = h
    by Greater rest = (h.0, rest)

pub sorted_inserted : {K X : Type 0} (cmp : K → K → Ordering) (o : IsTotalOrder cmp) (k : K) (v : X) (es : List (K × X)) → IsStrictlySortedBy cmp (keys_of es)
    → IsStrictlySortedBy cmp (keys_of (insert_entry cmp es k v))
unfolding IsStrictlySortedBy
sorted_inserted cmp o k v [] h = (tt, tt)
sorted_inserted cmp o k v (e ∷ es) h = by (cmp k e.0) refl (sorted_inserted cmp o k v es h.1)
  where
    by : (a : Ordering) → cmp k e.0 ≡ a → IsStrictlySortedBy cmp (keys_of (insert_entry cmp es k v))
        → IsStrictlySortedBy cmp (keys_of (match_ordering a ((k, v) ∷ e ∷ es) ((e.0, v) ∷ es) (e ∷ insert_entry cmp es k v)))
    by Less is rest = ((is, all_above cmp o k e.0 (keys_of es) is h.0), h)
    by Equal is rest = h
    by Greater is rest = (all_inserted cmp (λ y. cmp e.0 y ≡ Less) k v es (o.antisymm e.0 k ∙ ap ordering_reverse is) h.0, rest)

length_inserted : {K X : Type 0} (cmp : K → K → Ordering) (k : K) (v : X) (es : List (K × X)) → length (insert_entry cmp es k v) ≤ length es + 1
length_inserted cmp k v [] = omega arith
length_inserted cmp k v (e ∷ es) = by (cmp k e.0) (length_inserted cmp k v es)
  where
    by : (a : Ordering) → length (insert_entry cmp es k v) ≤ length es + 1 → length (match_ordering a ((k, v) ∷ e ∷ es) ((e.0, v) ∷ es) (e ∷ insert_entry cmp es k v)) ≤ length (e ∷ es) + 1
    by Less rest = omega arith
    by Equal rest = omega arith
    by Greater rest = omega (arith, rest)

all_left : {K X : Type 0} (P : K → Type 0) (test : K → Bool) (es : List (K × X)) → AllByRecursion P (keys_of es) → AllByRecursion P (keys_of (remove_entry test es))
all_left P test [] h = tt
all_left P test (e ∷ es) h = by (test e.0) (all_left P test es h.1)
  where
    by : (w : Bool) → AllByRecursion P (keys_of (remove_entry test es)) → AllByRecursion P (keys_of (cond w es (e ∷ remove_entry test es)))
    by true rest = h.1
    by false rest = (h.0, rest)

sorted_left : {K X : Type 0} (cmp : K → K → Ordering) (test : K → Bool) (es : List (K × X)) → IsStrictlySortedBy cmp (keys_of es) → IsStrictlySortedBy cmp (keys_of (remove_entry test es))
unfolding IsStrictlySortedBy
sorted_left cmp test [] h = tt
sorted_left cmp test (e ∷ es) h = by (test e.0) (sorted_left cmp test es h.1)
  where
    by : (w : Bool) → IsStrictlySortedBy cmp (keys_of (remove_entry test es)) → IsStrictlySortedBy cmp (keys_of (cond w es (e ∷ remove_entry test es)))
    by true rest = h.1
    by false rest = (all_left (λ y. cmp e.0 y ≡ Less) test es h.0, rest)

length_left : {K X : Type 0} (test : K → Bool) (es : List (K × X)) → length (remove_entry test es) ≤ length es
length_left test [] = omega arith
length_left test (e ∷ es) = by (test e.0) (length_left test es)
  where
    by : (w : Bool) → length (remove_entry test es) ≤ length es → length (cond w es (e ∷ remove_entry test es)) ≤ length (e ∷ es)
    by true rest = omega arith
    by false rest = omega (arith, rest)

-- ---- one index more, another in its place, one less

not_full : (n : ℕ) → nat_le 1000 n ≡ false → n + 1 ≤ 1000
not_full n is = let below = leb-false 1000 n is in omega (arith, below)

one_more : (es : Indexes) (uid : List ℕ) (i : Index) → AreUids (keys_of es) → is_uid uid ≡ true → is_full es ≡ false → AreUids (keys_of (with_index uid i es))
one_more es uid i fit valid full = record {
  few =
      let old = length-keys_of es in
      let new = length-keys_of (with_index uid i es) in
      let room : length es + 1 ≤ 1000 = not_full (length es) full in
      let put = length_inserted (slice_cmp nat_cmp) uid i es in
      omega (arith, old, new, room, put);
  each = all_inserted (slice_cmp nat_cmp) (λ u. is_uid u ≡ true) uid i es valid fit.each;
  ordered = sorted_inserted (slice_cmp nat_cmp) nat_list_cmp_total uid i es fit.ordered;
}

in_place : (es : Indexes) (uid : List ℕ) (old new : Index) → AreUids (keys_of es) → index_at uid es ≡ Some old → AreUids (keys_of (with_index uid new es))
in_place es uid old new fit at =
    let put = set_value-insert (slice_cmp nat_cmp) nat_list_cmp_total uid old new es fit.ordered at in
    subst AreUids (sym (keys-set_value (is_at (slice_cmp nat_cmp uid)) es new) ∙ ap keys_of put) fit

one_less : (es : Indexes) (uid : List ℕ) → AreUids (keys_of es) → AreUids (keys_of (without_index uid es))
one_less es uid fit = record {
  few =
      let old = length-keys_of es in
      let new = length-keys_of (without_index uid es) in
      let left = length_left (is_at (slice_cmp nat_cmp uid)) es in
      let few = fit.few in
      omega (arith, old, new, left, few);
  each = all_left (λ u. is_uid u ≡ true) (is_at (slice_cmp nat_cmp uid)) es fit.each;
  ordered = sorted_left (slice_cmp nat_cmp) (is_at (slice_cmp nat_cmp uid)) es fit.ordered;
}

-- ---- a change

-- what was bound went well, and so did what came before it
bound : {R A B : Type 0} (r : Result A R) (f : A → Result B R) (y : B) → (r >>= f) ≡ Ok y → (x : A) × (r ≡ Ok x) × (f x ≡ Ok y)
bound (Ok x) f y is = (x, refl, is)
bound (Err e) f y is = absurd (cc)

passed : {R A : Type 0} (fault : Option R) (r : Result A R) (y : A) → (fault >> r) ≡ Ok y → (fault ≡ None) × (r ≡ Ok y)
passed None r y is = (refl, is)
passed (Some e) r y is = absurd (cc)

room_left : {R : Type 0} (full : Bool) (why : R) → refuse_if full why ≡ None → full ≡ false
room_left false why is = refl
room_left true why is = absurd (cc)

after_room : (full : Bool) (old : Index) (change : KindData) (i : Index) → index_after full old change ≡ Ok i → full ≡ false
after_room full old change i is =
    let planning = bound (refused_as row_in (planned old change)) (λ plan. refuse_if full 32 >> refused_as row_in (applied plan old)) i is in
    room_left full 32 (passed (refuse_if full 32) (refused_as row_in (applied planning.0 old)) i planning.2).0

fit_created : (es : Indexes) (uid : List ℕ) (key : Option (List ℕ)) (new : Indexes) → AreUids (keys_of es) → is_uid uid ≡ true → created es uid key ≡ Ok new → AreUids (keys_of new)
fit_created es uid key new fit valid is =
    let made : Index = record { key = key; store = empty_index.store; settings = empty_index.settings } in
    let is_new = passed (refuse_if (is_some (index_at uid es)) 24) (refuse_if (is_full es) 32 >> Ok (with_index uid made es)) new is in
    let fits = passed (refuse_if (is_full es) 32) (Ok (with_index uid made es)) new is_new.1 in
    let same : with_index uid made es ≡ new = cc in
    subst (λ v. AreUids (keys_of v)) same (one_more es uid made fit valid (room_left (is_full es) 32 fits.0))

fit_dropped : (es : Indexes) (uid : List ℕ) (new : Indexes) → AreUids (keys_of es) → dropped es uid ≡ Ok new → AreUids (keys_of new)
fit_dropped es uid new fit is =
    let there = bound (or_refuse 23 (index_at uid es)) (λ i. Ok (without_index uid es)) new is in
    let same : without_index uid es ≡ new = cc in
    subst (λ v. AreUids (keys_of v)) same (one_less es uid fit)

fit_filled : (es : Indexes) (uid : List ℕ) (change : KindData) (new : Indexes) → AreUids (keys_of es) → is_uid uid ≡ true → filled es uid change ≡ Ok new → AreUids (keys_of new)
fit_filled es uid change new fit valid is = by (index_at uid es) refl is
  where
    by : (there : Option Index) → index_at uid es ≡ there
        → (index_after (is_none there && is_full es) (unwrap_or there empty_index) change >>= λ i. Ok (with_index uid i es)) ≡ Ok new → AreUids (keys_of new)
    by None at h =
        let after = bound (index_after (is_full es) empty_index change) (λ i. Ok (with_index uid i es)) new h in
        let same : with_index uid after.0 es ≡ new = cc in
        subst (λ v. AreUids (keys_of v)) same (one_more es uid after.0 fit valid (after_room (is_full es) empty_index change after.0 after.1))
    by (Some old) at h =
        let after = bound (index_after false old change) (λ i. Ok (with_index uid i es)) new h in
        let same : with_index uid after.0 es ≡ new = cc in
        subst (λ v. AreUids (keys_of v)) same (in_place es uid old after.0 fit at)

fit_emptied : (es : Indexes) (uid : List ℕ) (change : KindData) (new : Indexes) → AreUids (keys_of es) → emptied es uid change ≡ Ok new → AreUids (keys_of new)
fit_emptied es uid change new fit is = by (index_at uid es) refl is
  where
    by : (there : Option Index) → index_at uid es ≡ there
        → (or_refuse 23 there >>= λ old. index_after false old change >>= λ i. Ok (with_index uid i es)) ≡ Ok new → AreUids (keys_of new)
    by None at h = absurd (cc)
    by (Some old) at h =
        let after = bound (index_after false old change) (λ i. Ok (with_index uid i es)) new h in
        let same : with_index uid after.0 es ≡ new = cc in
        subst (λ v. AreUids (keys_of v)) same (in_place es uid old after.0 fit at)

uids_after : (es : Indexes) (uid : List ℕ) (kind : KindData) (new : Indexes) → AreUids (keys_of es) → is_uid uid ≡ true → indexes_after es uid kind ≡ Ok new → AreUids (keys_of new)
uids_after es uid (create key) new fit valid is = fit_created es uid key new fit valid is
uids_after es uid drop_index new fit valid is = fit_dropped es uid new fit is
uids_after es uid (replace given ds) new fit valid is = fit_filled es uid (replace given ds) new fit valid is
uids_after es uid (update given ds) new fit valid is = fit_filled es uid (update given ds) new fit valid is
uids_after es uid (remove ids) new fit valid is = fit_emptied es uid (remove ids) new fit is
uids_after es uid clear new fit valid is = fit_emptied es uid clear new fit is
uids_after es uid (patch members) new fit valid is = fit_filled es uid (patch members) new fit valid is
uids_after es uid reset new fit valid is = fit_emptied es uid reset new fit is

pub uids_left : (ks : List KindData) (es : Indexes) (uid : List ℕ) → AreUids (keys_of es) → is_uid uid ≡ true → AreUids (keys_of (after_kinds uid ks es))
uids_left [] es uid fit valid = fit
uids_left (k ∷ ks) es uid fit valid = uids_left ks (left_in (indexes_after es uid k) es) uid (by (indexes_after es uid k) refl) valid
  where
    by : (r : Result Indexes ℕ) → indexes_after es uid k ≡ r → AreUids (keys_of (left_in r es))
    by (Ok new) is = uids_after es uid k new fit valid is
    by (Err row) is = fit

-- ---- the indexes of an image

length_entries : (is : List IndexData) → length (keys_of (map entry_of is)) ≡ length is
length_entries [] = refl
length_entries (i ∷ is) = ap suc (length_entries is)

uids_of : (before is : List IndexData) → EachAfter IsIndex before is → AllByRecursion (λ uid. is_uid uid ≡ true) (keys_of (map entry_of is))
uids_of before [] each = tt
uids_of before (i ∷ is) each = (each.0.uid, uids_of (before ++ i ∷ []) is each.1)

pub uids_in : (rows : List ImageIndex) (es : Indexes) → length rows ≤ most_indexes → EachAfter IsIndex [] (map index_view rows) → es ≡ map entry_of (map index_view rows)
    → IsStrictlySortedBy (slice_cmp nat_cmp) (keys_of es) → AreUids (keys_of es)
uids_in rows es few each is up = record {
  few = let many = ap (λ v. length (keys_of v)) is ∙ length_entries (map index_view rows) ∙ length-map rows index_view in omega (arith, many, few);
  each = subst (λ v. AllByRecursion (λ uid. is_uid uid ≡ true) (keys_of v)) (sym is) (uids_of [] (map index_view rows) each);
  ordered = up;
}

-- they are as many as their rows
pub rows_few : (rows : List ImageIndex) (es : Indexes) → map entry_of (map index_view rows) ≡ es → AreUids (keys_of es) → length rows ≤ most_indexes
rows_few rows es is fit =
    let many = ap (λ v. length (keys_of v)) (sym is) ∙ length_entries (map index_view rows) ∙ length-map rows index_view in
    let few = fit.few in
    omega (arith, many, few)
