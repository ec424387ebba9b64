-- Where an image is damaged, no state is spelled so far.
use Rattle.std.proofs.Common.{◌≡◌, ℕ, zero, suc, ◌+◌, ◌≤◌, ◌<◌, ◌^◌, ◌⊎◌, inl, inr, Bool, true, false, cond, ltb, eqb, List, [], ◌∷◌, ◌++◌, length, Option, Some, None, Result, Ok, Err, refl, sym, ap, ◌∙◌, subst, append_assoc, append-nil, arith}
use Rattle.std.proofs.lemmas.Bool.{le-ltb, lt-ltb}
use Rattle.std.proofs.lemmas.List.{take_at, drop_at, length-append}
use Rattle.std.proofs.lemmas.List.Concat.{flat_map-cons}
use Rattle.std.proofs.lemmas.Nat.{from_le_bytes-to_le_bytes_8}
use Rattle.std.specs.Int.{Width, w32, w64, to_le_bytes}
use Rattle.std.specs.List.{flat_map, AllByRecursion}
use Rattle.std.specs.Prelude.{◌&&◌, ◌||◌, not, unwrap_or}
use Rattle.std.specs.Str.{is_utf8}
use Rattle.search_base.specs.declared.outcome.OutcomeRow.{OutcomeRow}
use Rattle.serde_json.specs.Written.{compact_text}
use Rattle.doc_values.specs.Ids.{is_uid}
use Rattle.index_settings.specs.View.{SettingsView}
use Rattle.index_image.specs.Layout.{settings_text, long}
use Rattle.index_image.specs.State.{settings_of, EachAfter, is_above, is_next, external_ids, most_documents, most_outcomes, IsPrimaryKey, IsNew, IsPlaced, IsIndex, IsState}
use Rattle.index_image.specs.declared.rows.ImageDocument.{ImageDocument}
use Rattle.change_payloads.specs.Fields.{◌>>=◌, number_at, piece_at, held_or, utf8_of, text_at, optional_at}
use Rattle.change_payloads.specs.Change.{Spot, spot, kind_at, or_spot}
use Rattle.change_payloads.specs.Fits.{IsText, IsKey}
use Rattle.change_payloads.specs.Spelling.{text}
use Rattle.change_payloads.proofs.Again.{wide_again, number_again, text_again}
use Rattle.index_image.specs.Fits.{ArePrinted, IsKept, HasIndexText, HasImage}
use Rattle.index_image.specs.Image.{up_to_at, allowed, list_at, counted_list_at, uid_at, if_some_text, key_at, path_at, settings_at, id_at, fitting, fitting_at, image_document_at, index_at, version_at, outcome_uid_at, row_at, outcome_at, outcomes_at, whole_image, state_at}
use Rattle.index_image.specs.Names.{has_name}
use Rattle.index_image.specs.Outcomes.{is_row, IsOutcome, HasOutcomeText}
use Rattle.index_image.specs.Rows.{IndexData, ImageData}
use Rattle.damage_laws.specs.Agrees.{AgreesThrough}
use Rattle.damage_laws.specs.Fields.{optional_fields, list_fields, path_fields, document_fields, index_fields, outcome_fields, AreFields}
use Rattle.index_image.proofs.Lists.{each_after}
use Rattle.damage_laws.proofs.Tells.{Within, IsBounded, IsReader, NoneSoFar, Tells, within_bind, left_bind, within_either, nothing_tells, plain_tells, field_tells, then_tells, map_tells}
use Rattle.damage_laws.proofs.ChangeTells.{PieceWithin, number_within, piece_within, held_within, optional_within, kind_within, optional_tells, known_kind_again, left_none, none_behind}

-- ---- what fields leave

-- a field that is refused where it begins
refused_within : {X : Type 0} (n : ℕ) (r : Result (X × List ℕ) ℕ) (bad : X × List ℕ → Bool) → Within n r → Within n (r >>= λ x. cond (bad x) (Err n) (Ok x))
refused_within n (Ok x) bad is = within_either n (bad x) (Err n) (Ok x) (omega arith) is
refused_within n (Err left) bad is = is

taken_within : {X : Type 0} (n : ℕ) (r : Result (X × List ℕ) ℕ) (good : X × List ℕ → Bool) → Within n r → Within n (r >>= λ x. cond (good x) (Ok x) (Err n))
taken_within n (Ok x) good is = within_either n (good x) (Ok x) (Err n) is (omega arith)
taken_within n (Err left) good is = is

-- a text that is refused where its bytes begin
allowed_within : (n : ℕ) (r : Result (List ℕ × List ℕ) ℕ) (good : List ℕ × List ℕ → Bool) → PieceWithin n r → Within n (r >>= λ t. allowed (good t) t)
allowed_within n (Ok t) good is = within_either n (good t) (Ok t) (Err (length t.0 + length t.1)) (omega (arith, is)) is
allowed_within n (Err left) good is = is

text_piece : (bytes : List ℕ) → PieceWithin (length bytes) (text_at bytes)
unfolding text_at
text_piece bytes = by (piece_at w32 bytes) (piece_within w32 bytes)
  where
    held : (piece : List ℕ × List ℕ) (b : Bool) → length piece.0 + length piece.1 ≤ length bytes → PieceWithin (length bytes) (held_or piece (cond b (Some piece.0) None))
    held piece true is = is
    held piece false is = is

    by : (r : Result (List ℕ × List ℕ) ℕ) → PieceWithin (length bytes) r → PieceWithin (length bytes) (r >>= λ piece. held_or piece (utf8_of piece.0))
    by (Ok piece) is = held piece (is_utf8 piece.0) is
    by (Err left) is = is

up_to_within : (w : Width) (most : ℕ) (bytes : List ℕ) → Within (length bytes) (up_to_at w most bytes)
unfolding up_to_at
up_to_within w most bytes = refused_within (length bytes) (number_at w bytes) (λ n. ltb most n.0) (number_within w bytes)

list_within : {A : Type 0} (one : List A → List ℕ → Result (A × List ℕ) ℕ) → ((before : List A) (bytes : List ℕ) → Within (length bytes) (one before bytes))
    → (n : ℕ) (before : List A) (bytes : List ℕ) → Within (length bytes) (list_at one n before bytes)
unfolding list_at
list_within one each zero before bytes = omega arith
list_within one each (suc n) before bytes = within_bind (length bytes) (one before bytes) (λ next. list_at one n (before ++ next.0 ∷ []) next.1) (each before bytes)
    (λ next. list_within one each n (before ++ next.0 ∷ []) next.1)

counted_list_within : {A : Type 0} (one : List A → List ℕ → Result (A × List ℕ) ℕ) → ((before : List A) (bytes : List ℕ) → Within (length bytes) (one before bytes))
    → (most : ℕ) (bytes : List ℕ) → Within (length bytes) (counted_list_at one most bytes)
unfolding counted_list_at
counted_list_within one each most bytes = within_bind (length bytes) (up_to_at w32 most bytes) (λ n. list_at one n.0 [] n.1) (up_to_within w32 most bytes) (λ n. list_within one each n.0 [] n.1)

uid_within : (before : List IndexData) (bytes : List ℕ) → Within (length bytes) (uid_at before bytes)
unfolding uid_at
uid_within before bytes = allowed_within (length bytes) (text_at bytes) (λ uid. is_uid uid.0 && is_above before uid.0) (text_piece bytes)

some_text_reader : IsReader if_some_text
some_text_reader (None, rest) = omega arith
some_text_reader (Some t, rest) = within_either (length rest) (ltb 0 (length t)) (Ok (Some t, rest)) (Err (length rest)) (omega arith) (omega arith)

key_within : (bytes : List ℕ) → Within (length bytes) (key_at bytes)
unfolding key_at
key_within bytes = within_bind (length bytes) (optional_at bytes) if_some_text (optional_within bytes) some_text_reader

path_within : (before : List (List ℕ)) (bytes : List ℕ) → Within (length bytes) (path_at before bytes)
unfolding path_at
path_within before bytes = allowed_within (length bytes) (text_at bytes) (λ path. not (has_name path.0 before)) (text_piece bytes)

settings_within : (bytes : List ℕ) → Within (length bytes) (settings_at bytes)
unfolding settings_at
settings_within bytes = held_within (length bytes) settings_of (piece_at w64 bytes) (piece_within w64 bytes)

id_within : (next_id : ℕ) (before : List ImageDocument) (bytes : List ℕ) → Within (length bytes) (id_at next_id before bytes)
unfolding id_at
id_within next_id before bytes = taken_within (length bytes) (number_at w32 bytes) (λ id. is_next before id.0 && ltb id.0 next_id) (number_within w32 bytes)

fitting_within : (key : List ℕ) (paths taken : List (List ℕ)) (bytes : List ℕ) → Within (length bytes) (fitting_at key paths taken bytes)
unfolding fitting_at
fitting_within key paths taken bytes = held_within (length bytes) (fitting key paths taken) (piece_at w64 bytes) (piece_within w64 bytes)

abbrev with_id : List ℕ → List (List ℕ) → List ImageDocument → ℕ × List ℕ → Result (ImageDocument × List ℕ) ℕ
with_id key paths before id = fitting_at key paths (external_ids key before) id.1 >>= λ document. Ok (record { id = record { 0 = id.0 }; document = document.0 }, document.1)

with_id_reader : (key : List ℕ) (paths : List (List ℕ)) (before : List ImageDocument) → IsReader (with_id key paths before)
with_id_reader key paths before id = within_bind (length id.1) (fitting_at key paths (external_ids key before) id.1) _ (fitting_within key paths (external_ids key before) id.1) (λ document. omega arith)

document_within : (key : List ℕ) (paths : List (List ℕ)) (next_id : ℕ) (before : List ImageDocument) (bytes : List ℕ) → Within (length bytes) (image_document_at key paths next_id before bytes)
unfolding image_document_at
document_within key paths next_id before bytes = within_bind (length bytes) (id_at next_id before bytes) (with_id key paths before) (id_within next_id before bytes) (with_id_reader key paths before)

outcome_uid_within : (bytes : List ℕ) → Within (length bytes) (outcome_uid_at bytes)
unfolding outcome_uid_at
outcome_uid_within bytes = allowed_within (length bytes) (text_at bytes) (λ uid. is_uid uid.0) (text_piece bytes)

row_within : (bytes : List ℕ) → Within (length bytes) (row_at bytes)
unfolding row_at
row_within [] = omega arith
row_within (byte ∷ bytes) = within_either (length (byte ∷ bytes)) (is_row byte) (Ok (byte, bytes)) (Err (length (byte ∷ bytes))) (omega arith) (omega arith)

abbrev with_row : ℕ → List ℕ → ℕ × List ℕ → Result (OutcomeRow × List ℕ) ℕ
with_row kind uid row = Ok (record { uid = uid; kind = kind; row = row.0 }, row.1)

abbrev with_outcome_uid : ℕ → List ℕ × List ℕ → Result (OutcomeRow × List ℕ) ℕ
with_outcome_uid kind uid = row_at uid.1 >>= with_row kind uid.0

abbrev with_kind : ℕ × List ℕ → Result (OutcomeRow × List ℕ) ℕ
with_kind kind = outcome_uid_at kind.1 >>= with_outcome_uid kind.0

outcome_uid_reader : (kind : ℕ) → IsReader (with_outcome_uid kind)
outcome_uid_reader kind uid = within_bind (length uid.1) (row_at uid.1) (with_row kind uid.0) (row_within uid.1) (λ row. omega arith)

kind_reader : IsReader with_kind
kind_reader kind = within_bind (length kind.1) (outcome_uid_at kind.1) (with_outcome_uid kind.0) (outcome_uid_within kind.1) (outcome_uid_reader kind.0)

outcome_within : (before : List OutcomeRow) (bytes : List ℕ) → Within (length bytes) (outcome_at bytes)
unfolding outcome_at
outcome_within before bytes = within_bind (length bytes) (kind_at bytes) with_kind (kind_within bytes) kind_reader

-- ---- an index, from its last field to its first

abbrev after_settings : List ℕ → Option (List ℕ) → ℕ → List (List ℕ) → SettingsView × List ℕ → Result (IndexData × List ℕ) ℕ
after_settings uid key next_id paths settings =
    counted_list_at (image_document_at (unwrap_or key []) paths next_id) (most_documents key) settings.1
    >>= λ documents. Ok (record { uid = uid; key = key; next_id = next_id; paths = paths; settings = settings.0; documents = documents.0 }, documents.1)

abbrev after_paths : List ℕ → Option (List ℕ) → ℕ → List (List ℕ) × List ℕ → Result (IndexData × List ℕ) ℕ
after_paths uid key next_id paths = settings_at paths.1 >>= after_settings uid key next_id paths.0

abbrev after_next_id : List ℕ → Option (List ℕ) → ℕ × List ℕ → Result (IndexData × List ℕ) ℕ
after_next_id uid key next_id = counted_list_at path_at 1000 next_id.1 >>= after_paths uid key next_id.0

abbrev after_key : List ℕ → Option (List ℕ) × List ℕ → Result (IndexData × List ℕ) ℕ
after_key uid key = up_to_at w32 1000000 key.1 >>= after_next_id uid key.0

abbrev after_uid : List ℕ × List ℕ → Result (IndexData × List ℕ) ℕ
after_uid uid = key_at uid.1 >>= after_key uid.0

settings_reader : (uid : List ℕ) (key : Option (List ℕ)) (next_id : ℕ) (paths : List (List ℕ)) → IsReader (after_settings uid key next_id paths)
settings_reader uid key next_id paths settings =
    within_bind (length settings.1) (counted_list_at (image_document_at (unwrap_or key []) paths next_id) (most_documents key) settings.1) _
    (counted_list_within (image_document_at (unwrap_or key []) paths next_id) (document_within (unwrap_or key []) paths next_id) (most_documents key) settings.1) (λ documents. omega arith)

paths_reader : (uid : List ℕ) (key : Option (List ℕ)) (next_id : ℕ) → IsReader (after_paths uid key next_id)
paths_reader uid key next_id paths = within_bind (length paths.1) (settings_at paths.1) (after_settings uid key next_id paths.0) (settings_within paths.1) (settings_reader uid key next_id paths.0)

next_id_reader : (uid : List ℕ) (key : Option (List ℕ)) → IsReader (after_next_id uid key)
next_id_reader uid key next_id = within_bind (length next_id.1) (counted_list_at path_at 1000 next_id.1) (after_paths uid key next_id.0) (counted_list_within path_at path_within 1000 next_id.1) (paths_reader uid key next_id.0)

key_reader : (uid : List ℕ) → IsReader (after_key uid)
key_reader uid key = within_bind (length key.1) (up_to_at w32 1000000 key.1) (after_next_id uid key.0) (up_to_within w32 1000000 key.1) (next_id_reader uid key.0)

uid_reader : IsReader after_uid
uid_reader uid = within_bind (length uid.1) (key_at uid.1) (after_key uid.0) (key_within uid.1) (key_reader uid.0)

index_within : (before : List IndexData) (bytes : List ℕ) → Within (length bytes) (index_at before bytes)
unfolding index_at
index_within before bytes = within_bind (length bytes) (uid_at before bytes) after_uid (uid_within before bytes) uid_reader

-- ---- what fields tell

up_to_again : (most n : ℕ) (rest : List ℕ) → n ≤ most → n < 2 ^ 32 → up_to_at w32 most (to_le_bytes w32 n ++ rest) ≡ Ok (n, rest)
unfolding up_to_at
up_to_again most n rest le lt = rw (number_again n rest lt, le-ltb most n le) refl

long_number_again : (n : ℕ) (rest : List ℕ) → n < 2 ^ 64 → number_at w64 (to_le_bytes w64 n ++ rest) ≡ Ok (n, rest)
long_number_again n rest lt = wide_again w64 n rest refl (from_le_bytes-to_le_bytes_8 n lt)

changes_again : (most n : ℕ) (rest : List ℕ) → n ≤ most → n < 2 ^ 64 → up_to_at w64 most (to_le_bytes w64 n ++ rest) ≡ Ok (n, rest)
unfolding up_to_at
changes_again most n rest le lt = rw (long_number_again n rest lt, le-ltb most n le) refl

long_again : (front rest : List ℕ) → length front < 2 ^ 64 → piece_at w64 (long front ++ rest) ≡ Ok (front, rest)
unfolding piece_at
long_again front rest lt =
    let enough : ltb (length (front ++ rest)) (length front) ≡ false = le-ltb _ _ (omega (arith, length-append front rest)) in
    rw (long_number_again (length front) (front ++ rest) lt, enough, take_at front rest (length front) refl, drop_at front rest (length front) refl) refl

uid_again : (before : List IndexData) (uid rest : List ℕ) → IsText uid → is_uid uid ≡ true → is_above before uid ≡ true → uid_at before (text uid ++ rest) ≡ Ok (uid, rest)
unfolding uid_at
uid_again before uid rest h valid above = rw (text_again uid rest h, valid, above) refl

path_again : (before : List (List ℕ)) (path rest : List ℕ) → IsNew before path → IsText path → path_at before (text path ++ rest) ≡ Ok (path, rest)
unfolding path_at
path_again before path rest h t = rw (text_again path rest t, h) refl

settings_again : (s : SettingsView) (rest : List ℕ) → ArePrinted s → settings_at (long (settings_text s) ++ rest) ≡ Ok (s, rest)
unfolding settings_at
settings_again s rest h = rw (long_again (settings_text s) rest h.short, h.back) refl

id_again : (next_id : ℕ) (before : List ImageDocument) (id : ℕ) (rest : List ℕ) → id < 2 ^ 32 → is_next before id ≡ true → id < next_id → id_at next_id before (to_le_bytes w32 id ++ rest) ≡ Ok (id, rest)
unfolding id_at
id_again next_id before id rest small next below = rw (number_again id rest small, next, lt-ltb id next_id below) refl

fitting_again : (key : List ℕ) (paths : List (List ℕ)) (next_id : ℕ) (before : List ImageDocument) (d : ImageDocument) (rest : List ℕ) → IsPlaced key paths next_id before d → IsKept d
    → fitting_at key paths (external_ids key before) (long (compact_text d.document) ++ rest) ≡ Ok (d.document, rest)
unfolding fitting_at
fitting_again key paths next_id before d rest h k = rw (long_again (compact_text d.document) rest k.short, k.back, h.fits_in) refl

some_text_again : (key : Option (List ℕ)) → IsPrimaryKey key → (rest : List ℕ) → if_some_text (key, rest) ≡ Ok (key, rest)
some_text_again None is rest = refl
some_text_again (Some t) is rest = rw (lt-ltb 0 (length t) is) refl

key_tells : (B : Type 0) (key : Option (List ℕ)) → IsPrimaryKey key → IsKey key → Tells B key_at key (optional_fields key)
unfolding key_at
key_tells B key primary is =
    subst (Tells B key_at key) (append-nil (optional_fields key))
    (then_tells B optional_at if_some_text key key (optional_fields key) [] (optional_tells B key is) some_text_reader
    (plain_tells B (λ rest. if_some_text (key, rest)) key (some_text_again key primary)))

document_tells : (B : Type 0) (key : List ℕ) (paths : List (List ℕ)) (next_id : ℕ) (before : List ImageDocument) (d : ImageDocument) → IsPlaced key paths next_id before d → IsKept d
    → Tells B (image_document_at key paths next_id before) d (document_fields d)
unfolding image_document_at
document_tells B key paths next_id before d h k =
    then_tells B (id_at next_id before) (with_id key paths before) d.id.0 d (to_le_bytes w32 d.id.0 ∷ []) (long (compact_text d.document) ∷ [])
    (field_tells B (id_at next_id before) d.id.0 (to_le_bytes w32 d.id.0) (λ rest. id_again next_id before d.id.0 rest k.small h.next h.below))
    (with_id_reader key paths before)
    (map_tells B (fitting_at key paths (external_ids key before)) (λ document. record { id = record { 0 = d.id.0 }; document = document }) d.document (long (compact_text d.document) ∷ [])
    (field_tells B (fitting_at key paths (external_ids key before)) d.document (long (compact_text d.document)) (λ rest. fitting_again key paths next_id before d rest h k)))

list_tells : {A : Type 0} (B : Type 0) (one : List A → List ℕ → Result (A × List ℕ) ℕ) (fields : A → List (List ℕ)) (P : List A → A → Type 0) (Q : A → Type 0)
    → ((before : List A) (bytes : List ℕ) → Within (length bytes) (one before bytes))
    → ((before : List A) (x : A) → P before x → Q x → Tells B (one before) x (fields x))
    → (xs before : List A) → EachAfter P before xs → AllByRecursion Q xs → Tells B (list_at one (length xs) before) (before ++ xs) (flat_map fields xs)
unfolding list_at
list_tells B one fields P Q within each [] before p q = subst (λ ys. Tells B (λ bytes. Ok (before, bytes)) ys []) (sym (append-nil before)) (nothing_tells B before)
list_tells B one fields P Q within each (x ∷ xs) before p q =
    let more = list_tells B one fields P Q within each xs (before ++ x ∷ []) p.1 q.1 in
    let both = then_tells B (one before) (λ next. list_at one (length xs) (before ++ next.0 ∷ []) next.1) x ((before ++ x ∷ []) ++ xs) (fields x) (flat_map fields xs)
    (each before x p.0 q.0) (λ next. list_within one within (length xs) (before ++ next.0 ∷ []) next.1) more in
    subst (λ own. Tells B (list_at one (suc (length xs)) before) (before ++ x ∷ xs) own) (sym (flat_map-cons fields x xs))
    (subst (λ ys. Tells B (list_at one (suc (length xs)) before) ys (fields x ++ flat_map fields xs)) (append_assoc before (x ∷ []) xs) both)

counted_list_tells : {A : Type 0} (B : Type 0) (one : List A → List ℕ → Result (A × List ℕ) ℕ) (fields : A → List (List ℕ)) (P : List A → A → Type 0) (Q : A → Type 0)
    → ((before : List A) (bytes : List ℕ) → Within (length bytes) (one before bytes))
    → ((before : List A) (x : A) → P before x → Q x → Tells B (one before) x (fields x))
    → (most : ℕ) (xs : List A) → length xs ≤ most → most < 2 ^ 32 → EachAfter P [] xs → AllByRecursion Q xs → Tells B (counted_list_at one most) xs (list_fields fields xs)
unfolding counted_list_at
counted_list_tells B one fields P Q within each most xs le lt p q =
    then_tells B (up_to_at w32 most) (λ n. list_at one n.0 [] n.1) (length xs) xs (to_le_bytes w32 (length xs) ∷ []) (flat_map fields xs)
    (field_tells B (up_to_at w32 most) (length xs) (to_le_bytes w32 (length xs)) (λ rest. up_to_again most (length xs) rest le (omega arith)))
    (λ n. list_within one within n.0 [] n.1) (list_tells B one fields P Q within each xs [] p q)

path_tells : (B : Type 0) (before : List (List ℕ)) (path : List ℕ) → IsNew before path → IsText path → Tells B (path_at before) path (path_fields path)
path_tells B before path h t = field_tells B (path_at before) path (text path) (λ rest. path_again before path rest h t)

few_documents : (key : Option (List ℕ)) → most_documents key ≤ 1000000
few_documents None = omega arith
few_documents (Some key) = omega arith

index_tells : (B : Type 0) (before : List IndexData) (i : IndexData) → IsIndex before i → HasIndexText i → Tells B (index_at before) i (index_fields i)
unfolding index_at
index_tells B before i h t =
    let key = unwrap_or i.key [] in
    let f6 = list_fields document_fields i.documents in
    let f5 = long (settings_text i.settings) ∷ f6 in
    let f4 = list_fields path_fields i.paths ++ f5 in
    let f3 = to_le_bytes w32 i.next_id ∷ f4 in
    let documents : Tells B (λ rest. after_settings i.uid i.key i.next_id i.paths (i.settings, rest)) i f6 =
    map_tells B (counted_list_at (image_document_at key i.paths i.next_id) (most_documents i.key)) (λ ds. record { uid = i.uid; key = i.key; next_id = i.next_id; paths = i.paths; settings = i.settings; documents = ds }) i.documents f6
    (counted_list_tells B (image_document_at key i.paths i.next_id) document_fields (IsPlaced key i.paths i.next_id) IsKept (document_within key i.paths i.next_id) (document_tells B key i.paths i.next_id)
    (most_documents i.key) i.documents h.few_documents (omega (arith, few_documents i.key)) h.documents t.documents) in
    let settings : Tells B (λ rest. after_paths i.uid i.key i.next_id (i.paths, rest)) i f5 =
    then_tells B settings_at (after_settings i.uid i.key i.next_id i.paths) i.settings i (long (settings_text i.settings) ∷ []) f6
    (field_tells B settings_at i.settings (long (settings_text i.settings)) (λ rest. settings_again i.settings rest t.settings)) (settings_reader i.uid i.key i.next_id i.paths) documents in
    let paths : Tells B (λ rest. after_next_id i.uid i.key (i.next_id, rest)) i f4 =
    then_tells B (counted_list_at path_at 1000) (after_paths i.uid i.key i.next_id) i.paths i (list_fields path_fields i.paths) f5
    (counted_list_tells B path_at path_fields IsNew IsText path_within (path_tells B) 1000 i.paths h.few_paths (omega arith) h.paths t.paths) (paths_reader i.uid i.key i.next_id) settings in
    let next_id : Tells B (λ rest. after_key i.uid (i.key, rest)) i f3 =
    then_tells B (up_to_at w32 1000000) (after_next_id i.uid i.key) i.next_id i (to_le_bytes w32 i.next_id ∷ []) f4
    (field_tells B (up_to_at w32 1000000) i.next_id (to_le_bytes w32 i.next_id) (λ rest. up_to_again 1000000 i.next_id rest h.next_id (let few = h.next_id in omega arith))) (next_id_reader i.uid i.key) paths in
    let keyed : Tells B (λ rest. after_uid (i.uid, rest)) i (optional_fields i.key ++ f3) =
    then_tells B key_at (after_key i.uid) i.key i (optional_fields i.key) f3 (key_tells B i.key h.key t.key) (key_reader i.uid) next_id in
    then_tells B (uid_at before) after_uid i.uid i (text i.uid ∷ []) (optional_fields i.key ++ f3)
    (field_tells B (uid_at before) i.uid (text i.uid) (λ rest. uid_again before i.uid rest t.uid h.uid h.above)) uid_reader keyed

outcome_uid_again : (uid rest : List ℕ) → IsText uid → is_uid uid ≡ true → outcome_uid_at (text uid ++ rest) ≡ Ok (uid, rest)
unfolding outcome_uid_at
outcome_uid_again uid rest h valid = rw (text_again uid rest h, valid) refl

row_again : (row : ℕ) (rest : List ℕ) → is_row row ≡ true → row_at ((row ∷ []) ++ rest) ≡ Ok (row, rest)
unfolding row_at
row_again row rest h = rw h refl

outcome_tells : (B : Type 0) (before : List OutcomeRow) (o : OutcomeRow) → IsOutcome o → HasOutcomeText o → Tells B outcome_at o (outcome_fields o)
unfolding outcome_at
outcome_tells B before o h t =
    let row : Tells B (λ rest. with_outcome_uid o.kind (o.uid, rest)) o ((o.row ∷ []) ∷ []) =
    map_tells B row_at (λ row. record { uid = o.uid; kind = o.kind; row = row }) o.row ((o.row ∷ []) ∷ [])
    (field_tells B row_at o.row (o.row ∷ []) (λ rest. row_again o.row rest h.row)) in
    let uid : Tells B (λ rest. with_kind (o.kind, rest)) o (text o.uid ∷ (o.row ∷ []) ∷ []) =
    then_tells B outcome_uid_at (with_outcome_uid o.kind) o.uid o (text o.uid ∷ []) ((o.row ∷ []) ∷ [])
    (field_tells B outcome_uid_at o.uid (text o.uid) (λ rest. outcome_uid_again o.uid rest t h.uid)) (outcome_uid_reader o.kind) row in
    then_tells B kind_at with_kind o.kind o ((o.kind ∷ []) ∷ []) (text o.uid ∷ (o.row ∷ []) ∷ [])
    (field_tells B kind_at o.kind (o.kind ∷ []) (λ rest. known_kind_again o.kind rest h.some_kind h.known_kind)) kind_reader uid

-- ---- the whole

version_again : (version : ℕ) (rest : List ℕ) → (version ≡ 1) ⊎ (version ≡ 2) → version_at ((version ∷ []) ++ rest) ≡ Ok (version, rest)
unfolding version_at
version_again version rest (inl one) = rw one refl
version_again version rest (inr two) = rw two refl

outcomes_within : (version changes : ℕ) (bytes : List ℕ) → Within (length bytes) (outcomes_at version changes bytes)
unfolding outcomes_at
outcomes_within version changes bytes =
    within_either (length bytes) (eqb version 1) (Ok ([], bytes)) (counted_list_at (λ before. outcome_at) (most_outcomes changes) bytes)
    (omega arith) (counted_list_within (λ before. outcome_at) outcome_within (most_outcomes changes) bytes)

abbrev after_outcomes : ℕ → List IndexData → List OutcomeRow × List ℕ → Result ImageData ℕ
after_outcomes changes indexes outcomes =
    cond (eqb (length outcomes.1) 0) (Ok (record { changes = changes; indexes = indexes; outcomes = outcomes.0 })) (Err (length outcomes.1))

abbrev after_indexes : ℕ → ℕ → List IndexData × List ℕ → Result ImageData ℕ
after_indexes version changes indexes = outcomes_at version changes indexes.1 >>= after_outcomes changes indexes.0

abbrev after_changes : ℕ → ℕ × List ℕ → Result ImageData ℕ
after_changes version changes = counted_list_at index_at 1000 changes.1 >>= after_indexes version changes.0

abbrev after_version : ℕ × List ℕ → Result ImageData ℕ
after_version version = up_to_at w64 1000000000 version.1 >>= after_changes version.0

outcomes_bounded : (changes : ℕ) (indexes : List IndexData) → IsBounded (after_outcomes changes indexes)
outcomes_bounded changes indexes outcomes = left_none (record { changes = changes; indexes = indexes; outcomes = outcomes.0 }) outcomes.1

indexes_bounded : (version changes : ℕ) → IsBounded (after_indexes version changes)
indexes_bounded version changes indexes =
    left_bind (length indexes.1) (outcomes_at version changes indexes.1) (after_outcomes changes indexes.0) (outcomes_within version changes indexes.1) (outcomes_bounded changes indexes.0)

changes_bounded : (version : ℕ) → IsBounded (after_changes version)
changes_bounded version changes =
    left_bind (length changes.1) (counted_list_at index_at 1000 changes.1) (after_indexes version changes.0) (counted_list_within index_at index_within 1000 changes.1) (indexes_bounded version changes.0)

version_bounded : IsBounded after_version
version_bounded version =
    left_bind (length version.1) (up_to_at w64 1000000000 version.1) (after_changes version.0) (up_to_within w64 1000000000 version.1) (changes_bounded version.0)

-- up to the indexes the two versions are read alike
front_none : (version : ℕ) (s : ImageData) (last : List (List ℕ)) → (version ≡ 1) ⊎ (version ≡ 2) → IsState s → HasImage s → NoneSoFar (λ rest. after_indexes version s.changes (s.indexes, rest)) last
    → NoneSoFar whole_image ((version ∷ []) ∷ to_le_bytes w64 s.changes ∷ (list_fields index_fields s.indexes ++ last))
unfolding whole_image
front_none version s last known h t behind =
    let f2 = list_fields index_fields s.indexes ++ last in
    let indexes : NoneSoFar (λ rest. after_changes version (s.changes, rest)) f2 =
    counted_list_tells ImageData index_at index_fields IsIndex HasIndexText index_within (index_tells ImageData) 1000 s.indexes h.few (omega arith) h.indexes t.0
    (after_indexes version s.changes) last (indexes_bounded version s.changes) behind in
    let changes : NoneSoFar (λ rest. after_version (version, rest)) (to_le_bytes w64 s.changes ∷ f2) =
    field_tells ImageData (up_to_at w64 1000000000) s.changes (to_le_bytes w64 s.changes) (λ rest. changes_again 1000000000 s.changes rest h.changes (let few = h.changes in omega arith))
    (after_changes version) f2 (changes_bounded version) indexes in
    field_tells ImageData version_at version (version ∷ []) (λ rest. version_again version rest known) after_version (to_le_bytes w64 s.changes ∷ f2) version_bounded changes

outcomes_none : (s : ImageData) → IsState s → HasImage s → NoneSoFar (λ rest. after_indexes 2 s.changes (s.indexes, rest)) (list_fields outcome_fields s.outcomes)
unfolding outcomes_at
outcomes_none s h t =
    subst (NoneSoFar (λ rest. after_indexes 2 s.changes (s.indexes, rest))) (append-nil (list_fields outcome_fields s.outcomes))
    (counted_list_tells ImageData (λ before. outcome_at) outcome_fields (λ before. IsOutcome) HasOutcomeText outcome_within (outcome_tells ImageData)
    (most_outcomes s.changes) s.outcomes h.few_outcomes (omega arith) (each_after IsOutcome [] s.outcomes h.outcomes) t.1
    (after_outcomes s.changes s.indexes) [] (outcomes_bounded s.changes s.indexes) (none_behind s))

no_outcomes_none : (s : ImageData) → NoneSoFar (λ rest. after_indexes 1 s.changes (s.indexes, rest)) []
unfolding outcomes_at
no_outcomes_none s = none_behind (record { changes = s.changes; indexes = s.indexes; outcomes = [] })

whole_none : (s : ImageData) (fields : List (List ℕ)) → IsState s → HasImage s → AreFields fields s → NoneSoFar whole_image fields
whole_none s fields h t (inl are) =
    subst (NoneSoFar whole_image) (sym are) (front_none 2 s (list_fields outcome_fields s.outcomes) (inr refl) h t (outcomes_none s h t))
whole_none s fields h t (inr (none, are)) =
    let without : (list_fields index_fields s.indexes ++ []) ≡ list_fields index_fields s.indexes = append-nil (list_fields index_fields s.indexes) in
    let all = ap (λ (l : List (List ℕ)). (1 ∷ []) ∷ to_le_bytes w64 s.changes ∷ l) without ∙ sym are in
    subst (NoneSoFar whole_image) all (front_none 1 s [] (inl refl) h t (no_outcomes_none s))

pub no_state_so_far : (bytes : List ℕ) (damage : Spot) (s : ImageData) (fields : List (List ℕ)) → state_at bytes ≡ Err damage → IsState s → HasImage s → AreFields fields s → AgreesThrough damage.place fields bytes → ⊥
no_state_so_far bytes damage s fields fails h t are agrees = by (whole_image bytes) refl fails
  where
    by : (r : Result ImageData ℕ) → whole_image bytes ≡ r → or_spot bytes r ≡ Err damage → ⊥
    by (Ok x) at e = absurd cc
    by (Err left) at e =
        let same : spot bytes left ≡ damage = cc in
        whole_none s fields h t are bytes left at (subst (λ (d : Spot). AgreesThrough d.place fields bytes) (sym same) agrees)
