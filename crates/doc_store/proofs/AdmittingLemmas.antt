-- Documents that are admitted in two goes.
use Rattle.std.proofs.Common.{◌≡◌, ℕ, ◌+◌, ◌≤◌, ◌<◌, Bool, true, false, List, [], ◌∷◌, ◌++◌, length, map, Some, refl, sym, ap, subst, ◌∙◌, arith, true≢false, length-append}
use Rattle.doc_store.specs.declared.rows.StoreRow.{StoreRow}
use Rattle.doc_store.specs.declared.admitting.Admitting.{Admitting}
use Rattle.doc_values.specs.Walk.{paths_of}
use Rattle.serde_json.specs.Data.{Data}
use Rattle.doc_store.specs.declared.admitting.NewPaths.{NewPaths}
use Rattle.doc_store.specs.declared.rows.StoreRefusal.{StoreRefusal}
use Rattle.doc_store.specs.declared.rows.StoreRefusal.TheVariants.{PathsSpent}
use Rattle.doc_store.specs.Admitting.{IsAdmitting, IsNoted, if_spent}
use Rattle.doc_store.specs.Given.{AreIdsOf}
use Rattle.path_registry.specs.Names.{Names}
use Rattle.path_registry.specs.Paths.{registered}
use Rattle.doc_store.specs.Store.{Store, id_given, stored, all_stored, ids_given, paths_after, paths_spent}
use Rattle.doc_store.proofs.PathLemmas.{paths_after-grows}
use Rattle.doc_store.proofs.SpentLemmas.{none-within, refused-above, refused-grows}
use Rattle.doc_store.specs.StoreView.{AdmissionView, IsAdmitted}
use Rattle.doc_store.proofs.StoreLemmas.{admitted-made}

pub stored_join : (a b : List StoreRow) (s : Store) → all_stored (a ++ b) s ≡ all_stored b (all_stored a s)
stored_join [] b s = refl
stored_join (r ∷ a) b s = stored_join a b (stored r s)

ids_join : (a b : List StoreRow) (s : Store) → ids_given (a ++ b) s ≡ ids_given a s ++ ids_given b (all_stored a s)
ids_join [] b s = refl
ids_join (r ∷ a) b s = ap (λ (l : List ℕ). id_given r s ∷ l) (ids_join a b (stored r s))

pub paths_join : (a b : List StoreRow) (ps : List (List ℕ)) → paths_after (a ++ b) ps ≡ paths_after b (paths_after a ps)
paths_join [] b ps = refl
paths_join (r ∷ a) b ps = paths_join a b (registered (paths_of r.document) ps)

-- more documents are admitted behind those before
pub admitted_more : (ids : Names) (s : Store) (before rows : List StoreRow) (a b : Admitting) → IsAdmitting ids s before a
    → AreIdsOf ids b.fresh b.free (all_stored rows (all_stored before s))
    → map (λ id. id.0) b.ids.items ≡ map (λ id. id.0) a.ids.items ++ ids_given rows (all_stored before s)
    → s.paths ++ b.added.paths ≡ paths_after rows (s.paths ++ a.added.paths)
    → b.free ≤ 1000000 → length s.paths + length b.added.paths ≤ 1000 → IsAdmitting ids s (before ++ rows) b
admitted_more ids s before rows a b h known given paths few_ids few_paths = record {
  known = subst (λ (t : Store). AreIdsOf ids b.fresh b.free t) (sym (stored_join before rows s)) known;
  given = given ∙ ap (λ (l : List ℕ). l ++ ids_given rows (all_stored before s)) h.given ∙ sym (ids_join before rows s);
  paths = paths ∙ ap (paths_after rows) h.paths ∙ sym (paths_join before rows s.paths);
  few_ids = few_ids;
  few_paths = few_paths;
}

pub admitted_whole : (ids : Names) (s : Store) (before : List StoreRow) (a : Admitting) (admission : AdmissionView) → IsAdmitting ids s before a → admission.ids ≡ map (λ id. id.0) a.ids.items → admission.added ≡ a.added.paths
    → IsAdmitted s before admission
admitted_whole ids s before a admission h same added =
    admitted-made s before admission (same ∙ h.given) (omega (arith, h.known.next, h.few_ids)) (ap (λ (l : List (List ℕ)). s.paths ++ l) added ∙ h.paths) (omega (arith, ap length added, h.few_paths))

-- ---- paths that are noted document by document

-- there are too many paths where too many were noted
pub spent-noted : (s : Store) (a : Admitting) (rows : List StoreRow) (new : NewPaths) (why : StoreRefusal) → IsNoted s a rows new → if_spent new.spent ≡ Some why
    → paths_spent (paths_after rows (s.paths ++ a.added.paths)) ≡ Some why
spent-noted s a rows new why noted h = by new.spent refl
  where
    by : (b : Bool) → new.spent ≡ b → paths_spent (paths_after rows (s.paths ++ a.added.paths)) ≡ Some why
    by true e = noted.spent e ∙ ap if_spent (sym e) ∙ h
    by false e = absurd (let none = sym (ap if_spent e) ∙ h in cc)

-- one document more comes by its walk
pub row-walked : (rows : List StoreRow) (row : StoreRow) (d : Data) (walk known : List (List ℕ)) → row.document ≡ d → walk ≡ paths_of d
    → registered walk (paths_after rows known) ≡ paths_after (rows ++ row ∷ []) known
row-walked rows row d walk known same walked =
    ap (λ v. registered v (paths_after rows known)) (walked ∙ sym (ap paths_of same)) ∙ sym (paths_join rows (row ∷ []) known)

-- documents that are admitted have no more paths than there may be
pub not-spent-yet : (ids : Names) (s : Store) (before : List StoreRow) (a : Admitting) (new : NewPaths) → IsAdmitting ids s before a → IsNoted s a [] new → new.spent ≡ false
not-spent-yet ids s before a new h noted = by new.spent refl
  where
    by : (b : Bool) → new.spent ≡ b → new.spent ≡ false
    by true e = absurd (let none = sym (none-within 1000 (length (s.paths ++ a.added.paths)) PathsSpent (omega (arith, h.few_paths, length-append s.paths a.added.paths))) ∙ noted.spent e in cc)
    by false e = e

-- more documents, the paths of which come by a walk
module _ (s : Store) (a : Admitting) (rows : List StoreRow) (old new : NewPaths) (noted : IsNoted s a rows old) where
  abbrev known : List (List ℕ)
  known = s.paths ++ a.added.paths

  pub noted-walked : (more : List StoreRow) (walk : List (List ℕ)) → registered walk (paths_after rows known) ≡ paths_after (rows ++ more) known → old.spent ≡ false
      → (new.spent ≡ false → known ++ new.fresh.paths ≡ registered walk (known ++ old.fresh.paths))
      → (new.spent ≡ false → length s.paths + length a.added.paths + length new.fresh.paths ≤ 1000)
      → (new.spent ≡ true → 1000 < length (registered walk (known ++ old.fresh.paths)))
      → IsNoted s a (rows ++ more) new
  noted-walked more walk walked few added within spent = record {
    paths = λ e. added e ∙ whole;
    few = within;
    spent = λ e. sym (ap paths_spent whole) ∙ refused-above 1000 _ PathsSpent (spent e);
  }
    where
      whole : registered walk (known ++ old.fresh.paths) ≡ paths_after (rows ++ more) known
      whole = ap (registered walk) (noted.paths few) ∙ walked

  pub noted-past : (row : StoreRow) → old.spent ≡ true → IsNoted s a (rows ++ row ∷ []) old
  noted-past row out = record {
    paths = λ e. absurd (true≢false (sym out ∙ e));
    few = λ e. absurd (true≢false (sym out ∙ e));
    spent = λ _. ap paths_spent (paths_join rows (row ∷ []) known)
        ∙ refused-grows 1000 (length (paths_after rows known)) _ PathsSpent PathsSpent (paths_after-grows (row ∷ []) (paths_after rows known)) (noted.spent out);
  }
