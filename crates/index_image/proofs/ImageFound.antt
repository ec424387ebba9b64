-- What is read as a state is its spelling, and the state is one that an image may hold.
use Rattle.std.proofs.Common.{◌≡◌, ℕ, ◌+◌, ◌<◌, ◌≤◌, ◌⊎◌, inl, inr, true, cond, eqb, List, [], ◌∷◌, ◌++◌, length, Option, Some, None, Result, Ok, Err, refl, sym, ap, subst, ◌∙◌, append-nil, arith}
use Rattle.std.proofs.lemmas.Bool.{ltb-true, eqb-true, and_parts, not-true, or_cases}
use Rattle.std.proofs.lemmas.Slice.Eq.{bytes_eq-Decides}
use Rattle.std.specs.Int.{w32, w64, to_le_bytes}
use Rattle.std.specs.List.{AllByRecursion}
use Rattle.std.specs.Prelude.{IfOk, ◌&&◌, ◌||◌, not, option_and_then, unwrap_or, nat_lt}
use Rattle.std.specs.Str.{is_utf8, bytes_eq}
use Rattle.search_base.specs.declared.outcome.OutcomeRow.{OutcomeRow}
use Rattle.serde_json.specs.Data.{Data}
use Rattle.serde_json.specs.Read.{read}
use Rattle.serde_json.specs.Written.{compact_text}
use Rattle.doc_values.specs.Stored.{document_at}
use Rattle.doc_values.specs.Ids.{is_uid}
use Rattle.std.specs.Result.{result_ok}
use Rattle.index_settings.specs.View.{SettingsView}
use Rattle.index_settings.specs.Patch.{patch_of}
use Rattle.index_settings.specs.Table.{defaults}
use Rattle.change_payloads.specs.declared.fault.ImageFault.{ImageFault}
use Rattle.index_image.specs.declared.rows.ImageDocument.{ImageDocument}
use Rattle.index_image.specs.declared.rows.ImageRows.{ImageRows}
use Rattle.change_payloads.specs.Answers.{Decodes}
use Rattle.change_payloads.specs.Change.{kind_at, or_spot}
use Rattle.change_payloads.specs.Fields.{◌>>=◌, number_at, piece_at, held_or, text_at, optional_at}
use Rattle.index_image.specs.Image.{up_to_at, allowed, counted_list_at, uid_at, if_some_text, key_at, path_at, settings_at, id_at, if_fits, fitting, fitting_at, image_document_at, index_at, version_at, outcome_uid_at, row_at, outcome_at, outcomes_at, whole_image, state_at}
use Rattle.index_image.specs.Outcomes.{is_row, outcome_bytes, IsOutcome}
use Rattle.index_image.specs.Layout.{long, settings_text, document_bytes, list_bytes, index_bytes, IsSpelled}
use Rattle.index_image.specs.Names.{has_name}
use Rattle.index_image.specs.Rows.{IndexData, ImageData, image_view}
use Rattle.change_payloads.specs.Spelling.{text, optional}
use Rattle.index_image.specs.State.{is_above, settings_of, printed_at, if_printed, is_next, external_ids, fits, most_documents, most_outcomes, IsPrimaryKey, IsNew, IsPlaced, IsIndex, IsState}
use Rattle.change_payloads.proofs.Found.{IsBytes, IsBytes-rest, Takes, Takes-then, bind_ok, guard_ended, ok_is, if_some, some_is, then_some, held_ok, number_takes, text_takes, optional_takes, document_own, kind_takes, nil_from_length}
use Rattle.index_image.proofs.Lists.{all_each, up_to_takes, counted_takes}
use Rattle.index_image.proofs.LongFields.{changes_take, long_takes}

-- ---- the fields of an index

record IsUid (before : List IndexData) (bytes : List ℕ) (x : List ℕ × List ℕ) : Type 0 where
  takes : Takes bytes (text x.0) x.1
  valid : is_uid x.0 ≡ true
  above : is_above before x.0 ≡ true

uid_takes : (before : List IndexData) (bytes : List ℕ) (x : List ℕ × List ℕ) → IsBytes bytes → uid_at before bytes ≡ Ok x → IsUid before bytes x
unfolding uid_at
uid_takes before bytes x fits e =
    let a = bind_ok (text_at bytes) (λ uid. allowed (is_uid uid.0 && is_above before uid.0) uid) x e in
    let g = guard_ended (is_uid a.0.0 && is_above before a.0.0) (length a.0.0 + length a.0.1) a.0 x a.2 in
    let parts = and_parts (is_uid a.0.0) (is_above before a.0.0) g.0 in
    subst (IsUid before bytes) g.1 (record { takes = text_takes bytes a.0.0 a.0.1 fits a.1; valid = parts.0; above = parts.1 })

some_text_ok : (o : Option (List ℕ)) (rest : List ℕ) (x : Option (List ℕ) × List ℕ) → if_some_text (o, rest) ≡ Ok x → ((o, rest) ≡ x) × IsPrimaryKey o
some_text_ok None rest x e = (ok_is (None, rest) x e, tt)
some_text_ok (Some t) rest x e =
    let g = guard_ended (nat_lt 0 (length t)) (length rest) (Some t, rest) x e in
    (g.1, ltb-true 0 (length t) g.0)

key_takes : (bytes : List ℕ) (x : Option (List ℕ) × List ℕ) → IsBytes bytes → key_at bytes ≡ Ok x → Takes bytes (optional x.0) x.1 × IsPrimaryKey x.0
unfolding key_at
key_takes bytes x fits e =
    let a = bind_ok (optional_at bytes) if_some_text x e in
    let g = some_text_ok a.0.0 a.0.1 x a.2 in
    subst (λ (y : Option (List ℕ) × List ℕ). Takes bytes (optional y.0) y.1 × IsPrimaryKey y.0) g.0 (optional_takes bytes a.0.0 a.0.1 fits a.1, g.1)

path_takes : (before : List (List ℕ)) (bytes : List ℕ) (x : List ℕ × List ℕ) → IsBytes bytes → path_at before bytes ≡ Ok x → Takes bytes (text x.0) x.1 × IsNew before x.0
unfolding path_at
path_takes before bytes x fits e =
    let a = bind_ok (text_at bytes) (λ path. allowed (not (has_name path.0 before)) path) x e in
    let g = guard_ended (not (has_name a.0.0 before)) (length a.0.0 + length a.0.1) a.0 x a.2 in
    subst (λ (y : List ℕ × List ℕ). Takes bytes (text y.0) y.1 × IsNew before y.0) g.1
    (text_takes bytes a.0.0 a.0.1 fits a.1, not-true (has_name a.0.0 before) g.0)

settings_own : (front : List ℕ) (s : SettingsView) → settings_of front ≡ Some s → front ≡ settings_text s
settings_own front s e =
    let a = if_some (is_utf8 front) (printed_at front (read front)) s e in
    let b = then_some (λ d. option_and_then (if_printed front) (result_ok (patch_of defaults d))) (read front) s a.1 in
    let f = then_some (if_printed front) (result_ok (patch_of defaults b.0)) s b.2 in
    let g = if_some (bytes_eq (settings_text f.0) front) (Some f.0) s f.2 in
    sym ((bytes_eq-Decides (settings_text f.0) front).0 g.0) ∙ ap settings_text (some_is f.0 s (Some f.0) refl g.1)

settings_takes : (bytes : List ℕ) (x : SettingsView × List ℕ) → IsBytes bytes → settings_at bytes ≡ Ok x → Takes bytes (long (settings_text x.0)) x.1
unfolding settings_at
settings_takes bytes x fits e =
    let b = bind_ok (piece_at w64 bytes) (λ piece. held_or piece (settings_of piece.0)) x e in
    let h = held_ok b.0 (settings_of b.0.0) x.0 x.1 b.2 in
    let t = long_takes bytes b.0 fits b.1 in
    let own : b.0.0 ≡ settings_text x.0 = settings_own b.0.0 x.0 h.0 in
    subst (λ (r : List ℕ). Takes bytes (long (settings_text x.0)) r) h.1 (subst (λ (f : List ℕ). Takes bytes (long f) b.0.1) own t)

-- ---- documents

record IsId (next_id : ℕ) (before : List ImageDocument) (bytes : List ℕ) (x : ℕ × List ℕ) : Type 0 where
  takes : Takes bytes (to_le_bytes w32 x.0) x.1
  next : is_next before x.0 ≡ true
  below : x.0 < next_id

id_takes : (next_id : ℕ) (before : List ImageDocument) (bytes : List ℕ) (x : ℕ × List ℕ) → IsBytes bytes → id_at next_id before bytes ≡ Ok x → IsId next_id before bytes x
unfolding id_at
id_takes next_id before bytes x fits e =
    let a = bind_ok (number_at w32 bytes) (λ id. cond (is_next before id.0 && nat_lt id.0 next_id) (Ok id) (Err (length bytes))) x e in
    let g = guard_ended (is_next before a.0.0 && nat_lt a.0.0 next_id) (length bytes) a.0 x a.2 in
    let parts = and_parts (is_next before a.0.0) (nat_lt a.0.0 next_id) g.0 in
    subst (IsId next_id before bytes) g.1
    (record { takes = number_takes bytes a.0.0 a.0.1 fits a.1; next = parts.0; below = ltb-true a.0.0 next_id parts.1 })

record IsFitting (key : List ℕ) (paths taken : List (List ℕ)) (bytes : List ℕ) (x : Data × List ℕ) : Type 0 where
  takes : Takes bytes (long (compact_text x.0)) x.1
  fits_in : fits key paths taken x.0 ≡ true

fitting_takes : (key : List ℕ) (paths taken : List (List ℕ)) (bytes : List ℕ) (x : Data × List ℕ) → IsBytes bytes → fitting_at key paths taken bytes ≡ Ok x → IsFitting key paths taken bytes x
unfolding fitting_at
fitting_takes key paths taken bytes x fit e =
    let b = bind_ok (piece_at w64 bytes) (λ piece. held_or piece (fitting key paths taken piece.0)) x e in
    let h = held_ok b.0 (fitting key paths taken b.0.0) x.0 x.1 b.2 in
    let t = long_takes bytes b.0 fit b.1 in
    let f = then_some (if_fits key paths taken) (document_at b.0.0) x.0 h.0 in
    let g = if_some (fits key paths taken f.0) (Some f.0) x.0 f.2 in
    let same : f.0 ≡ x.0 = some_is f.0 x.0 (Some f.0) refl g.1 in
    let found : document_at b.0.0 ≡ Some x.0 = f.1 ∙ ap (λ (d : Data). Some d) same in
    let own : b.0.0 ≡ compact_text x.0 = document_own b.0.0 x.0 found in
    record {
      takes = subst (λ (r : List ℕ). Takes bytes (long (compact_text x.0)) r) h.1 (subst (λ (front : List ℕ). Takes bytes (long front) b.0.1) own t);
      fits_in = subst (λ (d : Data). fits key paths taken d ≡ true) same g.0;
    }

document_takes : (key : List ℕ) (paths : List (List ℕ)) (next_id : ℕ) (before : List ImageDocument) (bytes : List ℕ) (x : ImageDocument × List ℕ) → IsBytes bytes → image_document_at key paths next_id before bytes ≡ Ok x
    → Takes bytes (document_bytes x.0) x.1 × IsPlaced key paths next_id before x.0
unfolding image_document_at
document_takes key paths next_id before bytes x fit e =
    let a = bind_ok (id_at next_id before bytes) (λ id. fitting_at key paths (external_ids key before) id.1 >>= λ document. Ok (record { id = record { 0 = id.0 }; document = document.0 }, document.1)) x e in
    let b = bind_ok (fitting_at key paths (external_ids key before) a.0.1) (λ document. Ok (record { id = record { 0 = a.0.0 }; document = document.0 }, document.1)) x a.2 in
    let first = id_takes next_id before bytes a.0 fit a.1 in
    let second = fitting_takes key paths (external_ids key before) a.0.1 b.0 first.takes.rest_fits b.1 in
    let made : ImageDocument × List ℕ = (record { id = record { 0 = a.0.0 }; document = b.0.0 }, b.0.1) in
    subst (λ (y : ImageDocument × List ℕ). Takes bytes (document_bytes y.0) y.1 × IsPlaced key paths next_id before y.0) (ok_is made x b.2) (
      Takes-then bytes (to_le_bytes w32 a.0.0) a.0.1 (long (compact_text b.0.0)) b.0.1 first.takes second.takes,
      record { next = first.next; below = first.below; fits_in = second.fits_in },
    )

-- ---- indexes

abbrev made : List ℕ → Option (List ℕ) → ℕ → List (List ℕ) → SettingsView → List ImageDocument × List ℕ → Result (IndexData × List ℕ) ℕ
made u k n p s d = Ok (record { uid = u; key = k; next_id = n; paths = p; settings = s; documents = d.0 }, d.1)

abbrev with_settings : List ℕ → Option (List ℕ) → ℕ → List (List ℕ) → SettingsView × List ℕ → Result (IndexData × List ℕ) ℕ
with_settings u k n p s = counted_list_at (image_document_at (unwrap_or k []) p n) (most_documents k) s.1 >>= made u k n p s.0

abbrev with_paths : List ℕ → Option (List ℕ) → ℕ → List (List ℕ) × List ℕ → Result (IndexData × List ℕ) ℕ
with_paths u k n p = settings_at p.1 >>= with_settings u k n p.0

abbrev with_next : List ℕ → Option (List ℕ) → ℕ × List ℕ → Result (IndexData × List ℕ) ℕ
with_next u k n = counted_list_at path_at 1000 n.1 >>= with_paths u k n.0

abbrev with_key : List ℕ → Option (List ℕ) × List ℕ → Result (IndexData × List ℕ) ℕ
with_key u k = up_to_at w32 1000000 k.1 >>= with_next u k.0

abbrev with_uid : List ℕ × List ℕ → Result (IndexData × List ℕ) ℕ
with_uid u = key_at u.1 >>= with_key u.0

index_takes : (before : List IndexData) (bytes : List ℕ) (x : IndexData × List ℕ) → IsBytes bytes → index_at before bytes ≡ Ok x → Takes bytes (index_bytes x.0) x.1 × IsIndex before x.0
unfolding index_at
index_takes before bytes x fit e =
    let u = bind_ok (uid_at before bytes) with_uid x e in
    let k = bind_ok (key_at u.0.1) (with_key u.0.0) x u.2 in
    let n = bind_ok (up_to_at w32 1000000 k.0.1) (with_next u.0.0 k.0.0) x k.2 in
    let p = bind_ok (counted_list_at path_at 1000 n.0.1) (with_paths u.0.0 k.0.0 n.0.0) x n.2 in
    let s = bind_ok (settings_at p.0.1) (with_settings u.0.0 k.0.0 n.0.0 p.0.0) x p.2 in
    let key : List ℕ = unwrap_or k.0.0 [] in
    let d = bind_ok (counted_list_at (image_document_at key p.0.0 n.0.0) (most_documents k.0.0) s.0.1) (made u.0.0 k.0.0 n.0.0 p.0.0 s.0.0) x s.2 in
    let uid = uid_takes before bytes u.0 fit u.1 in
    let own_key = key_takes u.0.1 k.0 uid.takes.rest_fits k.1 in
    let next_id = up_to_takes 1000000 k.0.1 n.0 own_key.0.rest_fits n.1 in
    let paths = counted_takes (List ℕ) path_at text IsNew path_takes 1000 n.0.1 p.0 next_id.0.rest_fits p.1 in
    let settings = settings_takes p.0.1 s.0 paths.takes.rest_fits s.1 in
    let documents = counted_takes ImageDocument (image_document_at key p.0.0 n.0.0) document_bytes (IsPlaced key p.0.0 n.0.0) (document_takes key p.0.0 n.0.0) (most_documents k.0.0) s.0.1 d.0 settings.rest_fits d.1 in
    let t5 = Takes-then p.0.1 (long (settings_text s.0.0)) s.0.1 (list_bytes document_bytes d.0.0) d.0.1 settings documents.takes in
    let t4 = Takes-then n.0.1 (list_bytes text p.0.0) p.0.1 (long (settings_text s.0.0) ++ list_bytes document_bytes d.0.0) d.0.1 paths.takes t5 in
    let t3 = Takes-then k.0.1 (to_le_bytes w32 n.0.0) n.0.1 (list_bytes text p.0.0 ++ (long (settings_text s.0.0) ++ list_bytes document_bytes d.0.0)) d.0.1 next_id.0 t4 in
    let t2 = Takes-then u.0.1 (optional k.0.0) k.0.1 (to_le_bytes w32 n.0.0 ++ (list_bytes text p.0.0 ++ (long (settings_text s.0.0) ++ list_bytes document_bytes d.0.0))) d.0.1 own_key.0 t3 in
    let t1 = Takes-then bytes (text u.0.0) u.0.1 (optional k.0.0 ++ (to_le_bytes w32 n.0.0 ++ (list_bytes text p.0.0 ++ (long (settings_text s.0.0) ++ list_bytes document_bytes d.0.0)))) d.0.1 uid.takes t2 in
    let index : IndexData = record { uid = u.0.0; key = k.0.0; next_id = n.0.0; paths = p.0.0; settings = s.0.0; documents = d.0.0 } in
    let found : IndexData × List ℕ = (index, d.0.1) in
    let is_index : IsIndex before index = record {
      uid = uid.valid;
      above = uid.above;
      key = own_key.1;
      next_id = next_id.1;
      few_paths = paths.few;
      paths = paths.each;
      few_documents = documents.few;
      documents = documents.each;
    } in
    subst (λ (y : IndexData × List ℕ). Takes bytes (index_bytes y.0) y.1 × IsIndex before y.0) (ok_is found x d.2) (t1, is_index)

-- ---- states

version_takes : (bytes : List ℕ) (x : ℕ × List ℕ) → IsBytes bytes → version_at bytes ≡ Ok x → Takes bytes (x.0 ∷ []) x.1 × ((x.0 ≡ 1) ⊎ (x.0 ≡ 2))
unfolding version_at
version_takes [] x fit e = absurd cc
version_takes (byte ∷ bytes) x fit e =
    let g = guard_ended (eqb byte 1 || eqb byte 2) (length (byte ∷ bytes)) (byte, bytes) x e in
    subst (λ (y : ℕ × List ℕ). Takes (byte ∷ bytes) (y.0 ∷ []) y.1 × ((y.0 ≡ 1) ⊎ (y.0 ≡ 2))) g.1
    (record { parts = refl; rest_fits = IsBytes-rest byte bytes fit }, either (or_cases (eqb byte 1) (eqb byte 2) g.0))
  where
    either : (eqb byte 1 ≡ true) ⊎ (eqb byte 2 ≡ true) → (byte ≡ 1) ⊎ (byte ≡ 2)
    either (inl one) = inl (eqb-true byte 1 one)
    either (inr two) = inr (eqb-true byte 2 two)

-- ---- outcomes

outcome_uid_takes : (bytes : List ℕ) (x : List ℕ × List ℕ) → IsBytes bytes → outcome_uid_at bytes ≡ Ok x → Takes bytes (text x.0) x.1 × (is_uid x.0 ≡ true)
unfolding outcome_uid_at
outcome_uid_takes bytes x fits e =
    let a = bind_ok (text_at bytes) (λ uid. allowed (is_uid uid.0) uid) x e in
    let g = guard_ended (is_uid a.0.0) (length a.0.0 + length a.0.1) a.0 x a.2 in
    subst (λ (y : List ℕ × List ℕ). Takes bytes (text y.0) y.1 × (is_uid y.0 ≡ true)) g.1 (text_takes bytes a.0.0 a.0.1 fits a.1, g.0)

row_takes : (bytes : List ℕ) (x : ℕ × List ℕ) → IsBytes bytes → row_at bytes ≡ Ok x → Takes bytes (x.0 ∷ []) x.1 × (is_row x.0 ≡ true)
unfolding row_at
row_takes [] x fit e = absurd cc
row_takes (byte ∷ bytes) x fit e =
    let g = guard_ended (is_row byte) (length (byte ∷ bytes)) (byte, bytes) x e in
    subst (λ (y : ℕ × List ℕ). Takes (byte ∷ bytes) (y.0 ∷ []) y.1 × (is_row y.0 ≡ true)) g.1 (record { parts = refl; rest_fits = IsBytes-rest byte bytes fit }, g.0)

abbrev with_row : ℕ → List ℕ → ℕ × List ℕ → Result (OutcomeRow × List ℕ) ℕ
with_row kind uid row = Ok (record { uid = uid; kind = kind; row = row.0 }, row.1)

abbrev with_outcome_uid : ℕ → List ℕ × List ℕ → Result (OutcomeRow × List ℕ) ℕ
with_outcome_uid kind uid = row_at uid.1 >>= with_row kind uid.0

outcome_takes : (before : List OutcomeRow) (bytes : List ℕ) (x : OutcomeRow × List ℕ) → IsBytes bytes → outcome_at bytes ≡ Ok x → Takes bytes (outcome_bytes x.0) x.1 × IsOutcome x.0
unfolding outcome_at
outcome_takes before bytes x fit e =
    let k = bind_ok (kind_at bytes) (λ kind. outcome_uid_at kind.1 >>= with_outcome_uid kind.0) x e in
    let u = bind_ok (outcome_uid_at k.0.1) (with_outcome_uid k.0.0) x k.2 in
    let r = bind_ok (row_at u.0.1) (with_row k.0.0 u.0.0) x u.2 in
    let kind = kind_takes bytes k.0 fit k.1 in
    let uid = outcome_uid_takes k.0.1 u.0 kind.0.rest_fits u.1 in
    let row = row_takes u.0.1 r.0 uid.0.rest_fits r.1 in
    let t2 = Takes-then k.0.1 (text u.0.0) u.0.1 (r.0.0 ∷ []) r.0.1 uid.0 row.0 in
    let t1 = Takes-then bytes (k.0.0 ∷ []) k.0.1 (text u.0.0 ++ r.0.0 ∷ []) r.0.1 kind.0 t2 in
    let found : OutcomeRow × List ℕ = (record { uid = u.0.0; kind = k.0.0; row = r.0.0 }, r.0.1) in
    subst (λ (y : OutcomeRow × List ℕ). Takes bytes (outcome_bytes y.0) y.1 × IsOutcome y.0) (ok_is found x r.2)
    (t1, record { some_kind = kind.1.0; known_kind = kind.1.1; uid = uid.1; row = row.1 })

record IsFound (bytes : List ℕ) (s : ImageData) : Type 0 where
  spelled : IsSpelled bytes s
  state : IsState s

abbrev finished : ℕ → List IndexData → List OutcomeRow × List ℕ → Result ImageData ℕ
finished n is os = cond (eqb (length os.1) 0) (Ok (record { changes = n; indexes = is; outcomes = os.0 })) (Err (length os.1))

abbrev with_indexes : ℕ → ℕ → List IndexData × List ℕ → Result ImageData ℕ
with_indexes version n is = outcomes_at version n is.1 >>= finished n is.0

abbrev with_changes : ℕ → ℕ × List ℕ → Result ImageData ℕ
with_changes version n = counted_list_at index_at 1000 n.1 >>= with_indexes version n.0

-- the outcomes, or none in version 1
record AreOutcomes (version changes : ℕ) (bytes : List ℕ) (y : List OutcomeRow × List ℕ) : Type 0 where
  takes : ((version ≡ 1) × (y ≡ ([], bytes))) ⊎ ((version ≡ 2) × Takes bytes (list_bytes outcome_bytes y.0) y.1)
  few : length y.0 ≤ most_outcomes changes
  each : AllByRecursion IsOutcome y.0

outcomes_take : (version changes : ℕ) (bytes : List ℕ) (y : List OutcomeRow × List ℕ) → IsBytes bytes → (version ≡ 1) ⊎ (version ≡ 2) → outcomes_at version changes bytes ≡ Ok y → AreOutcomes version changes bytes y
unfolding outcomes_at
outcomes_take version changes bytes y fit (inl one) e =
    let same : ([], bytes) ≡ y = ok_is ([], bytes) y (sym (ap (λ (v : ℕ). outcomes_at v changes bytes) one) ∙ e) in
    record {
      takes = inl (one, sym same);
      few = subst (λ (z : List OutcomeRow × List ℕ). length z.0 ≤ most_outcomes changes) same (omega arith);
      each = subst (λ (z : List OutcomeRow × List ℕ). AllByRecursion IsOutcome z.0) same tt;
    }
outcomes_take version changes bytes y fit (inr two) e =
    let t = counted_takes OutcomeRow (λ before. outcome_at) outcome_bytes (λ before. IsOutcome) outcome_takes (most_outcomes changes) bytes y fit (sym (ap (λ (v : ℕ). outcomes_at v changes bytes) two) ∙ e) in
    record { takes = inr (two, t.takes); few = t.few; each = all_each IsOutcome [] y.0 t.each }

-- the bytes of the fields, one after the other
spell : (bytes v n i : List ℕ) (version changes : ℕ) (is : List IndexData) (y : List OutcomeRow × List ℕ) → Takes bytes (version ∷ []) v → Takes v (to_le_bytes w64 changes) n → Takes n (list_bytes index_bytes is) i
    → ((version ≡ 1) × (y ≡ ([], i))) ⊎ ((version ≡ 2) × Takes i (list_bytes outcome_bytes y.0) y.1) → y.1 ≡ [] → IsSpelled bytes (record { changes = changes; indexes = is; outcomes = y.0 })
spell bytes v n i version changes is y first second third (inl (one, none)) nothing =
    let t2 = Takes-then v (to_le_bytes w64 changes) n (list_bytes index_bytes is) i second third in
    let t1 = Takes-then bytes (version ∷ []) v (to_le_bytes w64 changes ++ list_bytes index_bytes is) i first t2 in
    let all : List ℕ = to_le_bytes w64 changes ++ list_bytes index_bytes is in
    let rest : i ≡ [] = sym (ap (λ (z : List OutcomeRow × List ℕ). z.1) none) ∙ nothing in
    inr (ap (λ (z : List OutcomeRow × List ℕ). z.0) none, t1.parts ∙ ap (λ (r : List ℕ). (version ∷ all) ++ r) rest ∙ append-nil (version ∷ all) ∙ ap (λ (b : ℕ). b ∷ all) one)
spell bytes v n i version changes is y first second third (inr (two, fourth)) nothing =
    let t3 = Takes-then n (list_bytes index_bytes is) i (list_bytes outcome_bytes y.0) y.1 third fourth in
    let t2 = Takes-then v (to_le_bytes w64 changes) n (list_bytes index_bytes is ++ list_bytes outcome_bytes y.0) y.1 second t3 in
    let all : List ℕ = to_le_bytes w64 changes ++ (list_bytes index_bytes is ++ list_bytes outcome_bytes y.0) in
    let t1 = Takes-then bytes (version ∷ []) v all y.1 first t2 in
    inl (t1.parts ∙ ap (λ (r : List ℕ). (version ∷ all) ++ r) nothing ∙ append-nil (version ∷ all) ∙ ap (λ (b : ℕ). b ∷ all) two)

whole_found : (bytes : List ℕ) (s : ImageData) → IsBytes bytes → whole_image bytes ≡ Ok s → IsFound bytes s
unfolding whole_image
whole_found bytes s fit e =
    let v = bind_ok (version_at bytes) (λ version. up_to_at w64 1000000000 version.1 >>= with_changes version.0) s e in
    let n = bind_ok (up_to_at w64 1000000000 v.0.1) (with_changes v.0.0) s v.2 in
    let i = bind_ok (counted_list_at index_at 1000 n.0.1) (with_indexes v.0.0 n.0.0) s n.2 in
    let o = bind_ok (outcomes_at v.0.0 n.0.0 i.0.1) (finished n.0.0 i.0.0) s i.2 in
    let g = guard_ended (eqb (length o.0.1) 0) (length o.0.1) (record { changes = n.0.0; indexes = i.0.0; outcomes = o.0.0 }) s o.2 in
    let first = version_takes bytes v.0 fit v.1 in
    let second = changes_take 1000000000 v.0.1 n.0 first.0.rest_fits n.1 in
    let third = counted_takes IndexData index_at index_bytes IsIndex index_takes 1000 n.0.1 i.0 second.0.rest_fits i.1 in
    let fourth = outcomes_take v.0.0 n.0.0 i.0.1 o.0 third.takes.rest_fits first.1 o.1 in
    let made : ImageData = record { changes = n.0.0; indexes = i.0.0; outcomes = o.0.0 } in
    let nothing : o.0.1 ≡ [] = nil_from_length o.0.1 (eqb-true _ _ g.0) in
    let spelled : IsSpelled bytes made = spell bytes v.0.1 n.0.1 i.0.1 v.0.0 n.0.0 i.0.0 o.0 first.0 second.0 third.takes fourth.takes nothing in
    subst (IsFound bytes) g.1 (record { spelled = spelled; state = record { changes = second.1; few = third.few; indexes = third.each; few_outcomes = fourth.few; outcomes = fourth.each } })

at_spot : (bytes : List ℕ) (r : Result ImageData ℕ) (s : ImageData) → or_spot bytes r ≡ Ok s → r ≡ Ok s
at_spot bytes (Ok x) s e = cc
at_spot bytes (Err left) s e = absurd cc

state_found : (bytes : List ℕ) (s : ImageData) → IsBytes bytes → state_at bytes ≡ Ok s → IsFound bytes s
state_found bytes s fit e = whole_found bytes s fit (at_spot bytes (whole_image bytes) s e)

pub is_spelled : (bytes : List ℕ) (r : Result ImageRows ImageFault) → IsBytes bytes → Decodes image_view r (state_at bytes) → IfOk r (λ rows. IsSpelled bytes (image_view rows))
is_spelled bytes (Ok rows) fit given = (state_found bytes (image_view rows) fit given).spelled
is_spelled bytes (Err fault) fit given = tt

pub is_state : (bytes : List ℕ) (r : Result ImageRows ImageFault) → IsBytes bytes → Decodes image_view r (state_at bytes) → IfOk r (λ rows. IsState (image_view rows))
is_state bytes (Ok rows) fit given = (state_found bytes (image_view rows) fit given).state
is_state bytes (Err fault) fit given = tt
