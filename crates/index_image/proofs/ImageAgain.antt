-- What is spelled of a state is read again.
use Rattle.std.proofs.Common.{◌≡◌, ℕ, ◌≤◌, true, false, eqb, List, [], ◌∷◌, ◌++◌, inl, inr, length, Option, Some, None, Ok, refl, sym, ap, ◌∙◌, append_assoc, append-nil, arith}
use Rattle.std.proofs.lemmas.Bool.{lt-ltb, le-ltb, ne_eqb}
use Rattle.std.specs.Int.{w32, to_le_bytes}
use Rattle.std.specs.Prelude.{unwrap_or}
use Rattle.search_base.specs.declared.outcome.OutcomeRow.{OutcomeRow}
use Rattle.serde_json.specs.Written.{compact_text}
use Rattle.doc_values.specs.Ids.{is_uid}
use Rattle.index_settings.specs.View.{SettingsView}
use Rattle.index_image.specs.declared.rows.ImageDocument.{ImageDocument}
use Rattle.change_payloads.specs.Change.{kind_at, or_spot}
use Rattle.change_payloads.specs.Fits.{IsText, IsKey}
use Rattle.index_image.specs.Fits.{ArePrinted, IsKept, HasIndexText, HasImage}
use Rattle.index_image.specs.Image.{counted_list_at, uid_at, key_at, path_at, settings_at, id_at, fitting_at, image_document_at, index_at, version_at, outcome_uid_at, row_at, outcome_at, outcomes_at, whole_image, state_at}
use Rattle.index_image.specs.Layout.{long, settings_text, document_bytes, list_bytes, index_bytes, image_bytes, first_image_bytes, IsSpelled}
use Rattle.index_image.specs.Outcomes.{outcome_bytes, IsOutcome, HasOutcomeText}
use Rattle.index_image.specs.Rows.{IndexData, ImageData}
use Rattle.change_payloads.specs.Spelling.{text, optional}
use Rattle.index_image.specs.State.{is_above, most_documents, most_outcomes, IsPrimaryKey, IsNew, IsPlaced, IsIndex, IsState}
use Rattle.change_payloads.proofs.Again.{number_again, text_again, optional_again}
use Rattle.index_image.proofs.Lists.{each_after, up_to_again, counted_again}
use Rattle.index_image.proofs.LongFields.{changes_again, long_again}

uid_again : (before : List IndexData) (uid rest : List ℕ) → IsText uid → is_uid uid ≡ true → is_above before uid ≡ true → uid_at before (text uid ++ rest) ≡ Ok (uid, rest)
unfolding uid_at
uid_again before uid rest h valid above = rw (text_again uid rest h, valid, above) refl

key_again : (key : Option (List ℕ)) (rest : List ℕ) → IsPrimaryKey key → IsKey key → key_at (optional key ++ rest) ≡ Ok (key, rest)
unfolding key_at
key_again None rest h k = rw (optional_again None rest tt) refl
key_again (Some key) rest h k = rw (optional_again (Some key) rest k, lt-ltb 0 (length key) h) refl

path_again : (before : List (List ℕ)) (path rest : List ℕ) → IsNew before path → IsText path → path_at before (text path ++ rest) ≡ Ok (path, rest)
unfolding path_at
path_again before path rest h t = rw (text_again path rest t, h) refl

settings_again : (s : SettingsView) (rest : List ℕ) → ArePrinted s → settings_at (long (settings_text s) ++ rest) ≡ Ok (s, rest)
unfolding settings_at
settings_again s rest h = rw (long_again (settings_text s) rest h.short, h.back) refl

document_again : (key : List ℕ) (paths : List (List ℕ)) (next_id : ℕ) (before : List ImageDocument) (d : ImageDocument) (rest : List ℕ) → IsPlaced key paths next_id before d → IsKept d
    → image_document_at key paths next_id before (document_bytes d ++ rest) ≡ Ok (d, rest)
unfolding image_document_at id_at fitting_at
document_again key paths next_id before d rest h k =
    let front = long (compact_text d.document) in
    ap (image_document_at key paths next_id before) (append_assoc (to_le_bytes w32 d.id.0) front rest)
    ∙ rw (number_again d.id.0 (front ++ rest) k.small, h.next, lt-ltb d.id.0 next_id h.below, long_again (compact_text d.document) rest k.short, k.back, h.fits_in) refl

spread : (a b c d e f rest : List ℕ) → (a ++ (b ++ (c ++ (d ++ (e ++ f))))) ++ rest ≡ a ++ (b ++ (c ++ (d ++ (e ++ (f ++ rest)))))
spread a b c d e f rest = simp append_assoc

few_documents : (key : Option (List ℕ)) → most_documents key ≤ 1000000
few_documents None = omega arith
few_documents (Some key) = omega arith

index_again : (before : List IndexData) (i : IndexData) (rest : List ℕ) → IsIndex before i → HasIndexText i → index_at before (index_bytes i ++ rest) ≡ Ok (i, rest)
unfolding index_at
index_again before i rest h t =
    let key = unwrap_or i.key [] in
    let r6 = list_bytes document_bytes i.documents ++ rest in
    let r5 = long (settings_text i.settings) ++ r6 in
    let r4 = list_bytes text i.paths ++ r5 in
    let r3 = to_le_bytes w32 i.next_id ++ r4 in
    let r2 = optional i.key ++ r3 in
    ap (index_at before) (spread (text i.uid) (optional i.key) (to_le_bytes w32 i.next_id) (list_bytes text i.paths) (long (settings_text i.settings)) (list_bytes document_bytes i.documents) rest)
    ∙ rw (
      uid_again before i.uid r2 t.uid h.uid h.above,
      key_again i.key r3 h.key t.key,
      up_to_again 1000000 i.next_id r4 h.next_id (let few = h.next_id in omega arith),
      counted_again (List ℕ) path_at text IsNew IsText path_again 1000 i.paths r5 h.few_paths (omega arith) h.paths t.paths,
      settings_again i.settings r6 t.settings,
      counted_again ImageDocument (image_document_at key i.paths i.next_id) document_bytes (IsPlaced key i.paths i.next_id) IsKept (document_again key i.paths i.next_id) (most_documents i.key) i.documents rest h.few_documents (omega (arith, few_documents i.key)) h.documents t.documents,
    ) refl

outcome_again : (before : List OutcomeRow) (o : OutcomeRow) (rest : List ℕ) → IsOutcome o → HasOutcomeText o → outcome_at (outcome_bytes o ++ rest) ≡ Ok (o, rest)
unfolding outcome_at kind_at outcome_uid_at row_at
outcome_again before o rest h t =
    let some : eqb o.kind 0 ≡ false = ne_eqb o.kind 0 (λ e. omega (arith, e, h.some_kind)) in
    ap (λ (l : List ℕ). outcome_at (o.kind ∷ l)) (append_assoc (text o.uid) (o.row ∷ []) rest)
    ∙ rw (some, le-ltb 8 o.kind h.known_kind, text_again o.uid (o.row ∷ rest) t, h.uid, h.row) refl

whole_again : (s : ImageData) → IsState s → HasImage s → whole_image (image_bytes s) ≡ Ok s
unfolding whole_image version_at outcomes_at
whole_again s h t =
    let last = list_bytes outcome_bytes s.outcomes in
    let all : counted_list_at index_at 1000 (list_bytes index_bytes s.indexes ++ last) ≡ Ok (s.indexes, last) =
    counted_again IndexData index_at index_bytes IsIndex HasIndexText index_again 1000 s.indexes last h.few (omega arith) h.indexes t.0 in
    let ends : counted_list_at (λ before. outcome_at) (most_outcomes s.changes) last ≡ Ok (s.outcomes, []) =
    ap (counted_list_at (λ before. outcome_at) (most_outcomes s.changes)) (sym (append-nil last))
    ∙ counted_again OutcomeRow (λ before. outcome_at) outcome_bytes (λ before. IsOutcome) HasOutcomeText outcome_again (most_outcomes s.changes) s.outcomes [] h.few_outcomes (omega arith) (each_after IsOutcome [] s.outcomes h.outcomes) t.1 in
    rw (changes_again 1000000000 s.changes (list_bytes index_bytes s.indexes ++ last) h.changes (let few = h.changes in omega arith), all, ends) refl

first_again : (s : ImageData) → IsState s → HasImage s → s.outcomes ≡ [] → whole_image (first_image_bytes s) ≡ Ok s
unfolding whole_image version_at outcomes_at
first_again s h t none =
    let all : counted_list_at index_at 1000 (list_bytes index_bytes s.indexes) ≡ Ok (s.indexes, []) =
    ap (counted_list_at index_at 1000) (sym (append-nil (list_bytes index_bytes s.indexes))) ∙ counted_again IndexData index_at index_bytes IsIndex HasIndexText index_again 1000 s.indexes [] h.few (omega arith) h.indexes t.0 in
    rw (changes_again 1000000000 s.changes (list_bytes index_bytes s.indexes) h.changes (let few = h.changes in omega arith), all)
    (ap (λ (os : List OutcomeRow). Ok (record { changes = s.changes; indexes = s.indexes; outcomes = os })) (sym none))

-- the spelling of a state is read as the state
pub state_again : (s : ImageData) → IsState s → HasImage s → state_at (image_bytes s) ≡ Ok s
state_again s h t = ap (or_spot (image_bytes s)) (whole_again s h t)

pub spelled_again : (bytes : List ℕ) (s : ImageData) → IsState s → HasImage s → IsSpelled bytes s → state_at bytes ≡ Ok s
spelled_again bytes s h t (inl e) = ap state_at e ∙ state_again s h t
spelled_again bytes s h t (inr (none, e)) = ap state_at e ∙ ap (or_spot (first_image_bytes s)) (first_again s h t none)
