-- What the documents of an update take of a store: internal ids and paths as if they were stored as they came.
use Rattle.std.proofs.Common.{◌≡◌, ℕ, ◌+◌, cond, List, [], ◌∷◌, Some, refl, sym, ap, ap₂, ◌∙◌}
use Rattle.std.specs.Prelude.{bytes_eq}
use Rattle.std.specs.Option.{is_some, unwrap_or}
use Rattle.search_base.specs.Trying.{first_of}
use Rattle.doc_store.specs.declared.rows.StoreRow.{StoreRow}
use Rattle.path_registry.specs.Paths.{registered}
use Rattle.doc_store.specs.Sound.{IsSound}
use Rattle.doc_store.specs.Store.{Store, id_of, ids_given, ids_spent, paths_spent, stored, all_stored, externals, spent}
use Rattle.doc_store.specs.StoreView.{AdmissionView, IsAdmitted}
use Rattle.doc_store.proofs.RowLemmas.{id_of-put}
use Rattle.doc_store.proofs.SoundLemmas.{IsWhole, whole-stored}
use Rattle.doc_values.specs.Walk.{paths_of}
use Rattle.index_changes.specs.Index.{document_under}
use Rattle.index_changes.specs.Keyed.{AreReadBack}
use Rattle.index_changes.specs.Plans.{updating, all_updated}
use Rattle.index_changes.specs.Updating.{updated_rows}
use Rattle.index_changes.proofs.Replaced.{covered, over-adds-own, updated-ids, updated-stored}
use Rattle.index_changes.proofs.Rising.{document-rises}

-- ---- stores that give the same internal ids

record GiveAlike (s t : Store) : Type 0 where
  next : s.next_id ≡ t.next_id
  known : (q : List ℕ) → id_of q s.rows ≡ id_of q t.rows

found-alike : (x y : StoreRow) (s t : Store) → x.external ≡ y.external → GiveAlike s t → id_of x.external s.rows ≡ id_of y.external t.rows
found-alike x y s t same h = h.known x.external ∙ ap (λ e. id_of e t.rows) same

give-stored : (x y : StoreRow) (s t : Store) → x.external ≡ y.external → GiveAlike s t → GiveAlike (stored x s) (stored y t)
give-stored x y s t same h = record {
  next = ap₂ (λ o n. cond (is_some o) n (n + 1)) (found-alike x y s t same h) h.next;
  known = λ q.
      id_of-put x s.next_id s.rows q
      ∙ ap (λ e. cond (bytes_eq e q) (Some (unwrap_or (id_of x.external s.rows) s.next_id)) (id_of q s.rows)) same
      ∙ ap₂ (λ o n. cond (bytes_eq y.external q) (Some (unwrap_or o n)) (id_of q s.rows)) (found-alike x y s t same h) h.next
      ∙ ap (cond (bytes_eq y.external q) (Some (unwrap_or (id_of y.external t.rows) t.next_id))) (h.known q)
      ∙ sym (id_of-put y t.next_id t.rows q);
}

ids-alike : (xs ys : List StoreRow) (s t : Store) → externals xs ≡ externals ys → GiveAlike s t → ids_given xs s ≡ ids_given ys t
ids-alike [] [] s t e h = refl
ids-alike [] (y ∷ ys) s t e h = absurd (cc)
ids-alike (x ∷ xs) [] s t e h = absurd (cc)
ids-alike (x ∷ xs) (y ∷ ys) s t e h =
    let one : x.external ≡ y.external = cc in
    let more : externals xs ≡ externals ys = cc in
    ap₂ ◌∷◌ (ap₂ unwrap_or (found-alike x y s t one h) h.next) (ids-alike xs ys (stored x s) (stored y t) more (give-stored x y s t one h))

-- ---- an update

record Alike (s t : Store) : Type 0 where
  paths : s.paths ≡ t.paths
  give : GiveAlike s t

updates-alike : (rs : List StoreRow) (s t : Store) → IsWhole s → AreReadBack rs → Alike s t → Alike (all_updated rs s) (all_stored rs t)
updates-alike [] s t whole back h = h
updates-alike (r ∷ rs) s t whole back h = updates-alike rs (stored (updating r s) s) (stored r t) (whole-stored (updating r s) s whole) back.1 (record {
  paths = over-adds-own (document_under r.external s.rows) r.document s.paths (document-rises r.document back.0) (covered r.external s.rows s.paths whole.cover) ∙ ap (registered (paths_of r.document)) h.paths;
  give = give-stored (updating r s) r s t refl h.give;
})

alike-same : (s : Store) → Alike s s
alike-same s = record { paths = refl; give = record { next = refl; known = λ q. refl } }

as-they-came : (rs : List StoreRow) (s : Store) → IsSound s → AreReadBack rs → Alike (all_updated rs s) (all_stored rs s)
as-they-came rs s sound back = updates-alike rs s s (record { increase = sound.increase; apart = sound.apart; once = sound.once; cover = sound.cover }) back (alike-same s)

pub updates-spent : (rs : List StoreRow) (s : Store) → IsSound s → AreReadBack rs → spent (all_updated rs s) ≡ spent (all_stored rs s)
updates-spent rs s sound back =
    let h = as-they-came rs s sound back in
    ap₂ (λ next paths. first_of (ids_spent next) (paths_spent paths)) h.give.next h.paths

-- documents of an update that were admitted as they came are admitted as they are stored
pub updates-admitted : (rs : List StoreRow) (s : Store) (a : AdmissionView) → IsSound s → AreReadBack rs → IsAdmitted s rs a → IsAdmitted s (updated_rows rs s) a
updates-admitted rs s a sound back h =
    let same = updated-stored rs s sound back in
    record {
      ids = h.ids ∙ ids-alike rs (updated_rows rs s) s s (sym (updated-ids rs s)) (alike-same s).give;
      added = ap (λ (t : Store). t.paths) same ∙ (as-they-came rs s sound back).paths ∙ h.added;
      within = ap spent same ∙ updates-spent rs s sound back ∙ h.within;
    }
