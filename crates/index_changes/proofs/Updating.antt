-- The documents of an update, one after the other: what waits, and what is stored.
use Rattle.std.proofs.Common.{◌≡◌, ℕ, suc, ◌+◌, ◌==◌, ◌||◌, Bool, true, false, cond, List, [], ◌∷◌, ◌++◌, length, map, take, Option, None, Some, refl, sym, ap, ap₂, subst, ◌∙◌, arith, append_assoc}
use Rattle.std.specs.Prelude.{bytes_eq, not, IfSome}
use Rattle.std.specs.Option.{is_some}
use Rattle.std.specs.BTreeMap.{BTreeMap, get, UpdatesBy}
use Rattle.std.specs.Cmp.Lexicographic.{slice_cmp}
use Rattle.std.specs.Ordering.{nat_cmp}
use Rattle.std.proofs.lemmas.Map.Text.{is_eq-slice_cmp}
use Rattle.std.proofs.lemmas.Bool.{cond-true, cond-false, cond_both, eq-eqb, ne_eqb, eqb-true, eqb-false}
use Rattle.serde_json.specs.Data.{Data}
use Rattle.doc_store.specs.declared.rows.StoreRow.{StoreRow}
use Rattle.path_registry.specs.Paths.{has_path, last_place, place_or}
use Rattle.doc_store.specs.Store.{Row, Store, put, stored, all_stored, externals}
use Rattle.path_registry.proofs.NameLemmas.{same_bytes, bytes_same, bytes_eq-turned}
use Rattle.path_registry.proofs.PathLemmas.{last_place-append, place-has}
use Rattle.doc_index.specs.declared.named.Stored.{Stored}
use Rattle.doc_index.specs.Named.{named, AreRead}
use Rattle.index_changes.specs.Index.{document_under}
use Rattle.index_changes.specs.Plans.{over, updating, all_updated}
use Rattle.index_changes.specs.Updating.{comes, updated_rows, row_of, is_place, waits_after, ArePlaces, IsRead}
use Rattle.index_changes.proofs.Merging.{merge-grouped, merge-rises}
use Rattle.index_changes.proofs.Rising.{NamesRise}

-- ---- an update is documents stored one after the other

-- each document over the one that is stored by then
abbrev pub merged_rows : List StoreRow → Store → List StoreRow
merged_rows [] s = []
merged_rows (r ∷ rs) s = updating r s ∷ merged_rows rs (stored (updating r s) s)

pub merged-stored : (rs : List StoreRow) (s : Store) → all_updated rs s ≡ all_stored (merged_rows rs s) s
merged-stored [] s = refl
merged-stored (r ∷ rs) s = merged-stored rs (stored (updating r s) s)

-- ---- the last place of an external id

pub map-behind : (rows : List StoreRow) (r : StoreRow) → externals (rows ++ r ∷ []) ≡ externals rows ++ r.external ∷ []
map-behind [] r = refl
map-behind (x ∷ rows) r = ap (λ v. x.external ∷ v) (map-behind rows r)

length-externals : (rows : List StoreRow) → length (externals rows) ≡ length rows
length-externals [] = refl
length-externals (x ∷ rows) = ap suc (length-externals rows)

-- the value under one key changes
pub found : {A : Type 0} (old new : BTreeMap (List ℕ) A) (key : List ℕ) (o : Option A) → UpdatesBy (slice_cmp nat_cmp) (slice_cmp nat_cmp key) old new o → (q : List ℕ)
    → get (slice_cmp nat_cmp) new q ≡ cond (bytes_eq key q) o (get (slice_cmp nat_cmp) old q)
found old new key o puts q = puts.0 q ∙ ap (λ b. cond b o (get (slice_cmp nat_cmp) old q)) (is_eq-slice_cmp key q)

pub places-behind : (old new : BTreeMap (List ℕ) ℕ) (key : List ℕ) (rows more : List StoreRow) (r : StoreRow) (place : ℕ) → ArePlaces old rows → key ≡ r.external → place ≡ length rows → more ≡ rows ++ r ∷ []
    → UpdatesBy (slice_cmp nat_cmp) (slice_cmp nat_cmp key) old new (Some place) → ArePlaces new more
places-behind old new key rows more r place h is at behind puts = record {
  each = λ q.
      found old new key (Some place) puts q ∙ ap₂ (λ k n. cond (bytes_eq k q) (Some n) (get (slice_cmp nat_cmp) old q)) is (at ∙ sym (length-externals rows))
      ∙ ap (cond (bytes_eq r.external q) (Some (length (externals rows)))) (h.each q)
      ∙ sym (ap (last_place q) (ap externals behind ∙ map-behind rows r) ∙ last_place-append q r.external (externals rows));
}

-- the last of these names is the first, where it is among the others no more
place-first : (q : List ℕ) (names : List (List ℕ)) → is_place (last_place q (q ∷ names)) 0 ≡ not (has_path q names)
place-first q names = by (last_place q names) refl (has_path q names) refl
  where
    by : (o : Option ℕ) → last_place q names ≡ o → (b : Bool) → has_path q names ≡ b → is_place (place_or (last_place q names) (cond (bytes_eq q q) (Some 0) None)) 0 ≡ not (has_path q names)
    by None at true is = absurd (let bad = sym (ap is_some at) ∙ place-has q names ∙ is in cc)
    by None at false is = ap₂ (λ o b. is_place (place_or o (cond b (Some 0) None)) 0) at (bytes_same q q refl) ∙ sym (ap not is)
    by (Some p) at true is = ap (λ o. is_place (place_or o (cond (bytes_eq q q) (Some 0) None)) 0) at ∙ ne_eqb (suc p) 0 (λ e. absurd (omega (arith, e))) ∙ sym (ap not is)
    by (Some p) at false is = absurd (let bad = sym (ap is_some at) ∙ place-has q names ∙ is in cc)

eqb-suc : (a b : ℕ) → (suc a == suc b) ≡ (a == b)
eqb-suc a b = by (a == b) refl
  where
    by : (c : Bool) → (a == b) ≡ c → (suc a == suc b) ≡ (a == b)
    by true e = eq-eqb (suc a) (suc b) (ap suc (eqb-true a b e)) ∙ sym e
    by false e = ne_eqb (suc a) (suc b) (λ same. absurd (eqb-false a b e (omega (arith, same)))) ∙ sym e

suc-plus : (n at : ℕ) → suc n + at ≡ suc (n + at)
suc-plus n at = omega arith

place-behind : (q : List ℕ) (names more : List (List ℕ)) → has_path q more ≡ true → (at : ℕ) → is_place (last_place q (names ++ more)) (length names + at) ≡ is_place (last_place q more) at
place-behind q [] more h at = ap (is_place (last_place q more)) zero-plus
  where
    zero-plus : 0 + at ≡ at
    zero-plus = omega arith
place-behind q (n ∷ names) more h at = by (last_place q (names ++ more)) refl (place-behind q names more h at)
  where
    by : (o : Option ℕ) → last_place q (names ++ more) ≡ o → is_place (last_place q (names ++ more)) (length names + at) ≡ is_place (last_place q more) at
        → is_place (place_or (last_place q (names ++ more)) (cond (bytes_eq n q) (Some 0) None)) (suc (length names) + at) ≡ is_place (last_place q more) at
    by (Some p) is again = ap (λ o. is_place (place_or o (cond (bytes_eq n q) (Some 0) None)) (suc (length names) + at)) is
        ∙ ap (λ n. suc p == n) (suc-plus (length names) at) ∙ eqb-suc p (length names + at) ∙ sym (ap (λ o. is_place o (length names + at)) is) ∙ again
    by None is again = absurd (let bad : false ≡ true = sym (ap is_some is) ∙ place-has q (names ++ more) ∙ has-behind q names more h in cc)
      where
        has-behind : (q : List ℕ) (names more : List (List ℕ)) → has_path q more ≡ true → has_path q (names ++ more) ≡ true
        has-behind q [] more h = h
        has-behind q (n ∷ names) more h = ap (λ b. bytes_eq q n || b) (has-behind q names more h) ∙ or-true (bytes_eq q n)
          where
            or-true : (b : Bool) → (b || true) ≡ true
            or-true true = refl
            or-true false = refl

-- ---- the document of an external id

under-put : (new : StoreRow) (next : ℕ) (rows : List Row) (q : List ℕ) → document_under q (put new next rows) ≡ cond (bytes_eq new.external q) (Some new.document) (document_under q rows)
under-put new next [] q = ap (λ b. cond b (Some new.document) None) (bytes_eq-turned q new.external)
under-put new next (r ∷ rows) q = by (bytes_eq new.external r.external) refl (bytes_eq new.external q) refl (under-put new next rows q)
  where
    apart : (a b c : List ℕ) → bytes_eq a b ≡ true → bytes_eq a c ≡ false → bytes_eq c b ≡ false
    apart a b c h k = ap (λ v. bytes_eq c v) (sym (same_bytes a b h)) ∙ bytes_eq-turned c a ∙ k

    apart' : (a b c : List ℕ) → bytes_eq a b ≡ false → bytes_eq a c ≡ true → bytes_eq c b ≡ false
    apart' a b c h k = ap (λ v. bytes_eq v b) (sym (same_bytes a c k)) ∙ h

    by : (b : Bool) → b ≡ bytes_eq new.external r.external → (d : Bool) → d ≡ bytes_eq new.external q
        → document_under q (put new next rows) ≡ cond (bytes_eq new.external q) (Some new.document) (document_under q rows)
        → document_under q (put new next (r ∷ rows)) ≡ cond (bytes_eq new.external q) (Some new.document) (document_under q (r ∷ rows))
    by true sb true sd again = ap (document_under q) (cond-true _ _ _ (sym sb)) ∙ cond-true _ _ _ (bytes_eq-turned q new.external ∙ sym sd) ∙ sym (cond-true _ _ _ (sym sd))
    by true sb false sd again = ap (document_under q) (cond-true _ _ _ (sym sb)) ∙ cond-false _ _ _ (bytes_eq-turned q new.external ∙ sym sd)
        ∙ sym (cond-false _ _ _ (sym sd) ∙ cond-false _ _ _ (apart new.external r.external q (sym sb) (sym sd)))
    by false sb true sd again = ap (document_under q) (cond-false _ _ _ (sym sb)) ∙ cond-false _ _ _ (apart' new.external r.external q (sym sb) (sym sd)) ∙ again ∙ cond-true _ _ _ (sym sd) ∙ sym (cond-true _ _ _ (sym sd))
    by false sb false sd again = ap (document_under q) (cond-false _ _ _ (sym sb)) ∙ ap (λ v. cond (bytes_eq q r.external) (Some r.document) v) (again ∙ cond-false _ _ _ (sym sd)) ∙ sym (cond-false _ _ _ (sym sd))

-- ---- what waits

abbrev Waiting : Type 0
Waiting = BTreeMap (List ℕ) Data

abbrev waits : Waiting → List ℕ → Option Data
waits waiting q = get (slice_cmp nat_cmp) waiting q

-- the stored document under what waits
abbrev so_far : Option Data → Option Data → Option Data
so_far old None = old
so_far old (Some d) = Some (over old d)

over-grouped : (old waiting : Option Data) (new : Data) → IfSome waiting NamesRise → over (so_far old waiting) new ≡ over old (over waiting new)
over-grouped old None new h = refl
over-grouped None (Some d) new h = refl
over-grouped (Some o) (Some d) new h = merge-grouped o d new h

over-rises : (waiting : Option Data) (new : Data) → IfSome waiting NamesRise → NamesRise new → NamesRise (over waiting new)
over-rises None new h n = n
over-rises (Some d) new h n = merge-rises d new h

-- ---- the loop

pub record Updates (all left : List StoreRow) (s : Store) (rows : List StoreRow) (waiting : Waiting) : Type 0 where
  pub done : List StoreRow
  pub order : done ++ left ≡ all
  pub many : length rows ≡ length done
  pub told : rows ++ updated_rows left (all_updated done s) ≡ updated_rows all s
  pub waits_so : (q : List ℕ) → comes q left ≡ true → document_under q (all_updated done s).rows ≡ so_far (document_under q s.rows) (waits waiting q)
  pub rise : (q : List ℕ) → IfSome (waits waiting q) NamesRise

pub updates-start : (all : List StoreRow) (s : Store) (waiting : Waiting) → ((q : List ℕ) → waits waiting q ≡ None) → Updates all all s [] waiting
updates-start all s waiting empty = record {
  done = [];
  order = refl;
  many = refl;
  told = refl;
  waits_so = λ q c. ap (so_far (document_under q s.rows)) (sym (empty q));
  rise = λ q. subst (λ o. IfSome o NamesRise) (sym (empty q)) tt;
}

all_updated-behind : (done : List StoreRow) (r : StoreRow) (s : Store) → all_updated (done ++ r ∷ []) s ≡ stored (updating r (all_updated done s)) (all_updated done s)
all_updated-behind [] r s = refl
all_updated-behind (x ∷ done) r s = all_updated-behind done r (stored (updating x s) s)

length-behind : (rows : List StoreRow) (r : StoreRow) → length (rows ++ r ∷ []) ≡ suc (length rows)
length-behind [] r = refl
length-behind (x ∷ rows) r = ap suc (length-behind rows r)

externals-append : (xs ys : List StoreRow) → externals (xs ++ ys) ≡ externals xs ++ externals ys
externals-append [] ys = refl
externals-append (x ∷ xs) ys = ap (λ v. x.external ∷ v) (externals-append xs ys)

-- whether the next document is the last of its external id
last-is : (places : BTreeMap (List ℕ) ℕ) (all done rest : List StoreRow) (r : StoreRow) (at : ℕ) → ArePlaces places all → done ++ r ∷ rest ≡ all → at ≡ length done
    → is_place (get (slice_cmp nat_cmp) places r.external) at ≡ not (comes r.external rest)
last-is places all done rest r at h order is =
    ap₂ is_place (h.each r.external ∙ ap (λ v. last_place r.external (externals v)) (sym order) ∙ ap (last_place r.external) (externals-append done (r ∷ rest))) (is ∙ sym (length-externals done) ∙ plus-zero (length (externals done)))
    ∙ place-behind r.external (externals done) (r.external ∷ externals rest) (ap (λ b. b || comes r.external rest) (bytes_same r.external r.external refl)) 0
    ∙ place-first r.external (externals rest)
  where
    plus-zero : (n : ℕ) → n ≡ n + 0
    plus-zero n = omega arith

pub updates-one : (places : BTreeMap (List ℕ) ℕ) (all left : List StoreRow) (r : StoreRow) (rest : List StoreRow) (s : Store) (rows more : List StoreRow) (waiting next : Waiting) (old : Option Data) (updated : StoreRow) (is_last : Bool)
    → ArePlaces places all → left ≡ r ∷ rest → NamesRise r.document → old ≡ document_under r.external s.rows → is_last ≡ is_place (get (slice_cmp nat_cmp) places r.external) (length rows)
    → updated ≡ cond is_last (row_of r.external (over old (over (waits waiting r.external) r.document))) r
    → ((q : List ℕ) → waits next q ≡ cond (bytes_eq r.external q) (waits_after is_last (over (waits waiting r.external) r.document)) (waits waiting q))
    → more ≡ rows ++ updated ∷ [] → Updates all left s rows waiting → Updates all rest s more next
updates-one places all left r rest s rows more waiting next old updated is_last placed is rises stood lasts updates after pushed h = record {
  done = h.done ++ r ∷ [];
  order = append_assoc h.done (r ∷ []) rest ∙ ap (λ v. h.done ++ v) (sym is) ∙ h.order;
  many = ap length pushed ∙ length-behind rows updated ∙ ap suc h.many ∙ sym (length-behind h.done r);
  told =
      ap₂ (λ v t. v ++ updated_rows rest t) pushed (all_updated-behind h.done r s) ∙ append_assoc rows (updated ∷ []) (updated_rows rest (stored (updating r so) so))
      ∙ ap (λ v. rows ++ v ∷ updated_rows rest (stored (updating r so) so)) same ∙ ap (λ v. rows ++ updated_rows v so) (sym is) ∙ h.told;
  waits_so = λ q c. ap (λ (t : Store). document_under q t.rows) (all_updated-behind h.done r s) ∙ under-put (updating r so) so.next_id so.rows q ∙ waits_at q c (bytes_eq r.external q) refl;
  rise = λ q. subst (λ o. IfSome o NamesRise) (sym (after q)) (cond_both (bytes_eq r.external q) (waits_after is_last all_now) (waits waiting q) (λ o. IfSome o NamesRise) (λ _. rise_after is_last) (λ _. h.rise q));
}
  where
    so : Store
    so = all_updated h.done s

    all_now : Data
    all_now = over (waits waiting r.external) r.document

    rise_after : (b : Bool) → IfSome (waits_after b all_now) NamesRise
    rise_after true = tt
    rise_after false = over-rises (waits waiting r.external) r.document (h.rise r.external) rises

    here : comes r.external left ≡ true
    here = ap (comes r.external) is ∙ ap (λ b. b || comes r.external rest) (bytes_same r.external r.external refl)

    merged : over (document_under r.external so.rows) r.document ≡ over (document_under r.external s.rows) all_now
    merged = ap (λ o. over o r.document) (h.waits_so r.external here) ∙ over-grouped (document_under r.external s.rows) (waits waiting r.external) r.document (h.rise r.external)

    lasts_so : is_last ≡ not (comes r.external rest)
    lasts_so = lasts ∙ last-is places all h.done rest r (length rows) placed (ap (λ v. h.done ++ v) (sym is) ∙ h.order) h.many

    same : updated ≡ cond (comes r.external rest) r (updating r so)
    same = updates ∙ ap₂ (λ b o. cond b (row_of r.external (over o all_now)) r) lasts_so stood ∙ turned (comes r.external rest)
      where
        turned : (b : Bool) → cond (not b) (row_of r.external (over (document_under r.external s.rows) all_now)) r ≡ cond b r (updating r so)
        turned true = refl
        turned false = ap (row_of r.external) (sym merged)

    waits_at : (q : List ℕ) → comes q rest ≡ true → (b : Bool) → bytes_eq r.external q ≡ b
        → cond (bytes_eq r.external q) (Some (over (document_under r.external so.rows) r.document)) (document_under q so.rows) ≡ so_far (document_under q s.rows) (waits next q)
    waits_at q c true e =
        let same_name = same_bytes r.external q e in
        let later : is_last ≡ false = lasts_so ∙ ap not (ap (λ v. comes v rest) same_name ∙ c) in
        cond-true _ _ _ e ∙ ap Some merged ∙ ap (λ v. Some (over (document_under v s.rows) all_now)) same_name
        ∙ sym (ap (so_far (document_under q s.rows)) (after q ∙ cond-true _ _ _ e ∙ ap (λ b. waits_after b all_now) later))
    waits_at q c false e =
        cond-false _ _ _ e ∙ h.waits_so q (ap (comes q) is ∙ ap (λ b. bytes_eq q r.external || b) c ∙ or-true (bytes_eq q r.external))
        ∙ sym (ap (so_far (document_under q s.rows)) (after q ∙ cond-false _ _ _ e))
      where
        or-true : (b : Bool) → (b || true) ≡ true
        or-true true = refl
        or-true false = refl

-- the next document is among those of the update
next-comes : (all left : List StoreRow) (r : StoreRow) (rest : List StoreRow) (s : Store) (rows : List StoreRow) (waiting : Waiting) → left ≡ r ∷ rest → Updates all left s rows waiting → comes r.external all ≡ true
next-comes all left r rest s rows waiting is h = ap (comes r.external) (sym h.order ∙ ap (λ v. h.done ++ v) is) ∙ among h.done
  where
    or-true : (b : Bool) → (b || true) ≡ true
    or-true true = refl
    or-true false = refl

    among : (done : List StoreRow) → comes r.external (done ++ r ∷ rest) ≡ true
    among [] = ap (λ b. b || comes r.external rest) (bytes_same r.external r.external refl)
    among (x ∷ done) = ap (λ b. bytes_eq r.external x.external || b) (among done) ∙ or-true (bytes_eq r.external x.external)

pub next-read : (all left : List StoreRow) (r : StoreRow) (rest : List StoreRow) (s : Store) (rows : List StoreRow) (waiting : Waiting) (stored : List Stored) → left ≡ r ∷ rest → Updates all left s rows waiting
    → AreRead stored (named (externals all) s.rows) → IsRead r.external stored s
next-read all left r rest s rows waiting stored is h read = record { ids = externals all; read = read; among = next-comes all left r rest s rows waiting is h }
