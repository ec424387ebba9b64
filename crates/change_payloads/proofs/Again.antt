-- What is spelled is read again.
use Rattle.std.proofs.Common.{◌≡◌, ℕ, suc, ◌^◌, ◌<◌, false, ltb, List, [], ◌∷◌, ◌++◌, length, Option, Some, None, Ok, refl, sym, ap, ◌∙◌, append_assoc, append-nil, arith}
use Rattle.std.proofs.lemmas.Bool.{le-ltb}
use Rattle.std.proofs.lemmas.List.{take_at, drop_at, length-append}
use Rattle.std.proofs.lemmas.List.Concat.{flat_map-cons}
use Rattle.std.proofs.lemmas.Nat.{from_le_bytes-to_le_bytes_4}
use Rattle.std.specs.Int.{Width, w32, byte_len, from_le_bytes, to_le_bytes}
use Rattle.std.specs.List.{flat_map, AllByRecursion}
use Rattle.serde_json.specs.Data.{Data}
use Rattle.serde_json.specs.Written.{compact_text}
use Rattle.document_changes.specs.Changes.{KindData, create, drop_index, replace, update, remove, clear, patch, reset, ChangeData}
use Rattle.change_payloads.specs.Spelling.{text, optional, json, texts_data, documents, kind_byte, body, change}
use Rattle.change_payloads.specs.Fields.{number_at, piece_at, text_at, json_at, ids_at, stored_at, optional_at, documents_at, counted_at}
use Rattle.change_payloads.specs.Change.{kind_at, create_at, stored_with, remove_at, patch_at, body_at, whole_change, or_spot, change_at}
use Rattle.change_payloads.specs.Fits.{IsText, IsKey, IsStored, AreStored, AreIds, IsJson, IsKind, IsChange}

pub wide_again : (w : Width) (n : ℕ) (rest : List ℕ) → length (to_le_bytes w n) ≡ byte_len w → from_le_bytes w (to_le_bytes w n) ≡ n → number_at w (to_le_bytes w n ++ rest) ≡ Ok (n, rest)
wide_again w n rest len back =
    let long : ltb (length (to_le_bytes w n ++ rest)) (byte_len w) ≡ false = le-ltb _ _ (omega (arith, length-append (to_le_bytes w n) rest)) in
    rw (long, take_at (to_le_bytes w n) rest (byte_len w) len, drop_at (to_le_bytes w n) rest (byte_len w) len, back) refl

pub number_again : (n : ℕ) (rest : List ℕ) → n < 2 ^ 32 → number_at w32 (to_le_bytes w32 n ++ rest) ≡ Ok (n, rest)
number_again n rest lt = wide_again w32 n rest refl (from_le_bytes-to_le_bytes_4 n lt)

pub piece_again : (front rest : List ℕ) → length front < 2 ^ 32 → piece_at w32 (text front ++ rest) ≡ Ok (front, rest)
unfolding piece_at
piece_again front rest lt =
    let long : ltb (length (front ++ rest)) (length front) ≡ false = le-ltb _ _ (omega (arith, length-append front rest)) in
    rw (number_again (length front) (front ++ rest) lt, long, take_at front rest (length front) refl, drop_at front rest (length front) refl) refl

pub text_again : (t rest : List ℕ) → IsText t → text_at (text t ++ rest) ≡ Ok (t, rest)
unfolding text_at
text_again t rest h = rw (piece_again t rest h.short, h.utf8) refl

json_again : (d : Data) (rest : List ℕ) → IsJson d → json_at (json d ++ rest) ≡ Ok (d, rest)
unfolding json_at
json_again d rest h = rw (piece_again (compact_text d) rest h.short, h.back) refl

ids_again : (ids : List (List ℕ)) (rest : List ℕ) → AreIds ids → ids_at (json (texts_data ids) ++ rest) ≡ Ok (ids, rest)
unfolding ids_at
ids_again ids rest h = rw (piece_again (compact_text (texts_data ids)) rest h.short, h.back) refl

stored_again : (d : Data) (rest : List ℕ) → IsStored d → stored_at (json d ++ rest) ≡ Ok (d, rest)
unfolding stored_at
stored_again d rest h = rw (piece_again (compact_text d) rest h.short, h.back) refl

pub optional_again : (o : Option (List ℕ)) (rest : List ℕ) → IsKey o → optional_at (optional o ++ rest) ≡ Ok (o, rest)
unfolding optional_at
optional_again None rest h = refl
optional_again (Some t) rest h = rw (text_again t rest h) refl

documents_again : (ds : List Data) (rest : List ℕ) → AllByRecursion IsStored ds → documents_at (length ds) (flat_map json ds ++ rest) ≡ Ok (ds, rest)
unfolding documents_at
documents_again [] rest h = refl
documents_again (d ∷ ds) rest h =
    let regrouped : flat_map json (d ∷ ds) ++ rest ≡ json d ++ (flat_map json ds ++ rest) = ap (λ (x : List ℕ). x ++ rest) (flat_map-cons json d ds) ∙ append_assoc (json d) (flat_map json ds) rest in
    ap (documents_at (suc (length ds))) regrouped ∙ rw (stored_again d (flat_map json ds ++ rest) h.0, documents_again ds rest h.1) refl

counted_again : (ds : List Data) → AreStored ds → counted_at (documents ds) ≡ Ok (ds, [])
unfolding counted_at
counted_again ds h =
    let all : documents_at (length ds) (flat_map json ds) ≡ Ok (ds, []) = ap (documents_at (length ds)) (sym (append-nil (flat_map json ds))) ∙ documents_again ds [] h.each in
    rw (number_again (length ds) (flat_map json ds) h.few, all) refl

stored_with_again : (made : Option (List ℕ) → List Data → KindData) (key : Option (List ℕ)) (ds : List Data) → IsKey key → AreStored ds
    → stored_with made (optional key ++ documents ds) ≡ Ok (made key ds, [])
unfolding stored_with
stored_with_again made key ds k h = rw (optional_again key (documents ds) k, counted_again ds h) refl

body_again : (kind : KindData) → IsKind kind → body_at (kind_byte kind) (body kind) ≡ Ok (kind, [])
unfolding body_at create_at remove_at patch_at
body_again (create key) h =
    let all : optional_at (optional key) ≡ Ok (key, []) = ap optional_at (sym (append-nil (optional key))) ∙ optional_again key [] h in
    rw all refl
body_again drop_index h = refl
body_again (replace key ds) h = stored_with_again replace key ds h.0 h.1
body_again (update key ds) h = stored_with_again update key ds h.0 h.1
body_again (remove ids) h =
    let all : ids_at (json (texts_data ids)) ≡ Ok (ids, []) = ap ids_at (sym (append-nil (json (texts_data ids)))) ∙ ids_again ids [] h in
    rw all refl
body_again clear h = refl
body_again (patch members) h =
    let all : json_at (json members) ≡ Ok (members, []) = ap json_at (sym (append-nil (json members))) ∙ json_again members [] h in
    rw all refl
body_again reset h = refl

kind_again : (kind : KindData) (rest : List ℕ) → kind_at (kind_byte kind ∷ rest) ≡ Ok (kind_byte kind, rest)
unfolding kind_at
kind_again (create key) rest = refl
kind_again drop_index rest = refl
kind_again (replace key ds) rest = refl
kind_again (update key ds) rest = refl
kind_again (remove ids) rest = refl
kind_again clear rest = refl
kind_again (patch members) rest = refl
kind_again reset rest = refl

whole_again : (c : ChangeData) → IsChange c → whole_change (change c) ≡ Ok c
unfolding whole_change
whole_again c h = rw (kind_again c.kind (text c.uid ++ body c.kind), text_again c.uid (body c.kind) h.uid, body_again c.kind h.kind) refl

-- the spelling of a change is read as the change
pub change_again : (c : ChangeData) → IsChange c → change_at (change c) ≡ Ok c
change_again c h = ap (or_spot (change c)) (whole_again c h)
