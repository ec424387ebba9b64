-- A document that a later one of its external id replaces: what it holds does not matter, so long as its paths come.
use Rattle.std.proofs.Common.{◌≡◌, ℕ, ◌+◌, ◌||◌, Bool, true, false, cond, List, [], ◌∷◌, Option, None, Some, refl, sym, ap, ap₂, subst, ◌∙◌}
use Rattle.std.specs.Prelude.{bytes_eq, IfSome}
use Rattle.std.specs.Option.{is_some}
use Rattle.std.proofs.lemmas.Bool.{cond-true, cond-false, cond_both}
use Rattle.serde_json.specs.Data.{Data}
use Rattle.doc_store.specs.declared.rows.StoreRow.{StoreRow}
use Rattle.path_registry.specs.Paths.{has_path, registered}
use Rattle.doc_store.specs.Sound.{AreRegistered, CoverRows, IsSound}
use Rattle.doc_store.specs.Store.{Row, Store, row, put, id_of, next_after, stored, all_stored, externals}
use Rattle.path_registry.proofs.NameLemmas.{same_bytes, bytes_same, bytes_eq-turned}
use Rattle.doc_store.proofs.SoundLemmas.{IsWhole, whole-stored}
use Rattle.doc_values.specs.Walk.{paths_of}
use Rattle.index_changes.specs.Index.{document_under}
use Rattle.index_changes.specs.Keyed.{AreReadBack}
use Rattle.index_changes.specs.Plans.{over, updating, all_updated}
use Rattle.index_changes.specs.Updating.{comes, updated_rows}
use Rattle.index_changes.proofs.OwnPaths.{merge-adds-own}
use Rattle.index_changes.proofs.Rising.{NamesRise, document-rises}

-- ---- rows, where the document of an external id is another

abbrev with_data : Row → Data → Row
with_data r d = record { id = r.id; external = r.external; document = d }

abbrev set : List ℕ → Data → List Row → List Row
set q d [] = []
set q d (r ∷ rows) = cond (bytes_eq q r.external) (with_data r d ∷ rows) (r ∷ set q d rows)

set-here : (q : List ℕ) (d : Data) (r : Row) (rows : List Row) → bytes_eq q r.external ≡ true → set q d (r ∷ rows) ≡ with_data r d ∷ rows
set-here q d r rows e = cond-true _ _ _ e

set-later : (q : List ℕ) (d : Data) (r : Row) (rows : List Row) → bytes_eq q r.external ≡ false → set q d (r ∷ rows) ≡ r ∷ set q d rows
set-later q d r rows e = cond-false _ _ _ e

put-here : (new : StoreRow) (next : ℕ) (r : Row) (rows : List Row) → bytes_eq new.external r.external ≡ true → put new next (r ∷ rows) ≡ row r.id new ∷ rows
put-here new next r rows e = cond-true _ _ _ e

put-later : (new : StoreRow) (next : ℕ) (r : Row) (rows : List Row) → bytes_eq new.external r.external ≡ false → put new next (r ∷ rows) ≡ r ∷ put new next rows
put-later new next r rows e = cond-false _ _ _ e

abbrev of : List ℕ → Data → StoreRow
of external d = record { external = external; document = d }

-- two documents of one external id are put in the same place
set-put : (q : List ℕ) (d e : Data) (next : ℕ) (rows : List Row) → put (of q d) next rows ≡ set q d (put (of q e) next rows)
set-put q d e next [] = sym (set-here q d (row next (of q e)) [] (bytes_same q q refl))
set-put q d e next (r ∷ rows) = by (bytes_eq q r.external) refl (set-put q d e next rows)
  where
    by : (b : Bool) → bytes_eq q r.external ≡ b → put (of q d) next rows ≡ set q d (put (of q e) next rows) → put (of q d) next (r ∷ rows) ≡ set q d (put (of q e) next (r ∷ rows))
    by true is again = put-here (of q d) next r rows is ∙ sym (ap (set q d) (put-here (of q e) next r rows is) ∙ set-here q d (row r.id (of q e)) rows (bytes_same q q refl))
    by false is again = put-later (of q d) next r rows is ∙ ap (λ v. r ∷ v) again ∙ sym (ap (set q d) (put-later (of q e) next r rows is) ∙ set-later q d r (put (of q e) next rows) is)

-- what is put under the external id replaces it
put-over : (new : StoreRow) (d : Data) (next : ℕ) (rows : List Row) → put new next (set new.external d rows) ≡ put new next rows
put-over new d next [] = refl
put-over new d next (r ∷ rows) = by (bytes_eq new.external r.external) refl (put-over new d next rows)
  where
    by : (b : Bool) → bytes_eq new.external r.external ≡ b → put new next (set new.external d rows) ≡ put new next rows → put new next (set new.external d (r ∷ rows)) ≡ put new next (r ∷ rows)
    by true is again = ap (put new next) (set-here new.external d r rows is) ∙ put-here new next (with_data r d) rows is ∙ sym (put-here new next r rows is)
    by false is again = ap (put new next) (set-later new.external d r rows is) ∙ put-later new next r (set new.external d rows) is ∙ ap (λ v. r ∷ v) again ∙ sym (put-later new next r rows is)

-- what is put under another leaves it
put-beside : (new : StoreRow) (q : List ℕ) (d : Data) (next : ℕ) (rows : List Row) → bytes_eq q new.external ≡ false → put new next (set q d rows) ≡ set q d (put new next rows)
put-beside new q d next [] other = sym (set-later q d (row next new) [] other)
put-beside new q d next (r ∷ rows) other = by (bytes_eq q r.external) refl (bytes_eq new.external r.external) refl (put-beside new q d next rows other)
  where
    by : (b : Bool) → bytes_eq q r.external ≡ b → (c : Bool) → bytes_eq new.external r.external ≡ c → put new next (set q d rows) ≡ set q d (put new next rows)
        → put new next (set q d (r ∷ rows)) ≡ set q d (put new next (r ∷ rows))
    by true is true at again = absurd (let same = same_bytes q r.external is in let also = same_bytes new.external r.external at in let both = bytes_same q new.external (same ∙ sym also) in cc)
    by true is false at again =
        ap (put new next) (set-here q d r rows is) ∙ put-later new next (with_data r d) rows at ∙ sym (ap (set q d) (put-later new next r rows at) ∙ set-here q d r (put new next rows) is)
    by false is true at again =
        ap (put new next) (set-later q d r rows is) ∙ put-here new next r (set q d rows) at ∙ sym (ap (set q d) (put-here new next r rows at) ∙ set-later q d (row r.id new) rows other)
    by false is false at again =
        ap (put new next) (set-later q d r rows is) ∙ put-later new next r (set q d rows) at ∙ ap (λ v. r ∷ v) again ∙ sym (ap (set q d) (put-later new next r rows at) ∙ set-later q d r (put new next rows) is)

id_of-set : (q : List ℕ) (d : Data) (external : List ℕ) (rows : List Row) → id_of external (set q d rows) ≡ id_of external rows
id_of-set q d external [] = refl
id_of-set q d external (r ∷ rows) = cond_both (bytes_eq q r.external) (with_data r d ∷ rows) (r ∷ set q d rows) (λ v. id_of external v ≡ id_of external (r ∷ rows))
    (λ _. refl) (λ _. ap (cond (bytes_eq external r.external) (Some r.id)) (id_of-set q d external rows))

-- ---- stores

abbrev store_of : List (List ℕ) → ℕ → List Row → Store
store_of paths next rows = record { paths = paths; next_id = next; rows = rows }

abbrev set_in : List ℕ → Data → Store → Store
set_in q d s = store_of s.paths s.next_id (set q d s.rows)

next-set : (new : StoreRow) (q : List ℕ) (d : Data) (s : Store) → next_after new s.next_id (set q d s.rows) ≡ next_after new s.next_id s.rows
next-set new q d s = ap (λ o. cond (is_some o) s.next_id (s.next_id + 1)) (id_of-set q d new.external s.rows)

stored-over : (new : StoreRow) (d : Data) (s : Store) → stored new (set_in new.external d s) ≡ stored new s
stored-over new d s = ap₂ (store_of (registered (paths_of new.document) s.paths)) (next-set new new.external d s) (put-over new d s.next_id s.rows)

stored-beside : (new : StoreRow) (q : List ℕ) (d : Data) (s : Store) → bytes_eq q new.external ≡ false → stored new (set_in q d s) ≡ set_in q d (stored new s)
stored-beside new q d s other = ap₂ (store_of (registered (paths_of new.document) s.paths)) (next-set new q d s) (put-beside new q d s.next_id s.rows other)

-- one of these documents replaces that of the external id, whatever it is
overwritten : (rows : List StoreRow) (q : List ℕ) (d : Data) (s : Store) → comes q rows ≡ true → all_stored rows (set_in q d s) ≡ all_stored rows s
overwritten [] q d s h = absurd (cc)
overwritten (new ∷ rows) q d s h = by (bytes_eq q new.external) refl (overwritten rows q d (stored new s))
  where
    by : (b : Bool) → bytes_eq q new.external ≡ b → (comes q rows ≡ true → all_stored rows (set_in q d (stored new s)) ≡ all_stored rows (stored new s)) → all_stored (new ∷ rows) (set_in q d s) ≡ all_stored (new ∷ rows) s
    by true is again = ap (λ v. all_stored rows (stored new (set_in v d s))) (same_bytes q new.external is) ∙ ap (all_stored rows) (stored-over new d s)
    by false is again = ap (all_stored rows) (stored-beside new q d s is) ∙ again (ap (λ b. b || comes q rows) (sym is) ∙ h)

-- ---- an update is its rows, stored one after the other

pub covered : (q : List ℕ) (rows : List Row) (paths : List (List ℕ)) → CoverRows rows paths → IfSome (document_under q rows) (λ d. AreRegistered (paths_of d) paths)
covered q [] paths h = tt
covered q (r ∷ rows) paths h = cond_both (bytes_eq q r.external) (Some r.document) (document_under q rows) (λ o. IfSome o (λ d. AreRegistered (paths_of d) paths)) (λ _. h.0) (λ _. covered q rows paths h.1)

pub over-adds-own : (o : Option Data) (new : Data) (paths : List (List ℕ)) → NamesRise new → IfSome o (λ d. AreRegistered (paths_of d) paths) → registered (paths_of (over o new)) paths ≡ registered (paths_of new) paths
over-adds-own None new paths h there = refl
over-adds-own (Some old) new paths h there = merge-adds-own old new paths h there

as-it-came : (r : StoreRow) (s : Store) → IsWhole s → NamesRise r.document → stored r s ≡ set_in r.external r.document (stored (updating r s) s)
as-it-came r s whole h =
    ap₂ (λ paths rows. store_of paths (next_after r s.next_id s.rows) rows)
    (sym (over-adds-own (document_under r.external s.rows) r.document s.paths h (covered r.external s.rows s.paths whole.cover)))
    (set-put r.external r.document (over (document_under r.external s.rows) r.document) s.next_id s.rows)

pub updated-ids : (rs : List StoreRow) (s : Store) → externals (updated_rows rs s) ≡ externals rs
updated-ids [] s = refl
updated-ids (r ∷ rs) s = ap₂ ◌∷◌ (cond_both (comes r.external rs) r (updating r s) (λ v. v.external ≡ r.external) (λ _. refl) (λ _. refl)) (updated-ids rs (stored (updating r s) s))

whole-updated : (rs : List StoreRow) (s : Store) → IsWhole s → AreReadBack rs → all_stored (updated_rows rs s) s ≡ all_updated rs s
whole-updated [] s whole back = refl
whole-updated (r ∷ rs) s whole back = by (comes r.external rs) refl ∙ whole-updated rs (stored (updating r s) s) (whole-stored (updating r s) s whole) back.1
  where
    later : List StoreRow
    later = updated_rows rs (stored (updating r s) s)

    by : (b : Bool) → comes r.external rs ≡ b → all_stored later (stored (cond (comes r.external rs) r (updating r s)) s) ≡ all_stored later (stored (updating r s) s)
    by true is =
        ap (λ b. all_stored later (stored (cond b r (updating r s)) s)) is ∙ ap (all_stored later) (as-it-came r s whole (document-rises r.document back.0))
        ∙ overwritten later r.external r.document (stored (updating r s) s) (ap (has_path r.external) (updated-ids rs (stored (updating r s) s)) ∙ is)
    by false is = ap (λ b. all_stored later (stored (cond b r (updating r s)) s)) is

pub updated-stored : (rs : List StoreRow) (s : Store) → IsSound s → AreReadBack rs → all_stored (updated_rows rs s) s ≡ all_updated rs s
updated-stored rs s sound back = whole-updated rs s (record { increase = sound.increase; apart = sound.apart; once = sound.once; cover = sound.cover }) back
