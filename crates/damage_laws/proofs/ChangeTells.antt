-- Where a payload is damaged, no change is spelled so far.
use Rattle.std.proofs.Common.{◌≡◌, ℕ, zero, suc, ◌+◌, ◌≤◌, ◌<◌, Bool, true, false, cond, ltb, eqb, List, [], ◌∷◌, ◌++◌, length, take, drop, map, Option, Some, None, Result, Ok, Err, refl, sym, subst, append-nil, arith}
use Rattle.std.proofs.lemmas.Bool.{le-ltb, ne_eqb}
use Rattle.std.proofs.lemmas.List.{length-drop, length-take}
use Rattle.std.specs.Int.{Width, w32, byte_len, from_le_bytes, to_le_bytes}
use Rattle.std.specs.List.{AllByRecursion}
use Rattle.std.specs.Prelude.{◌||◌}
use Rattle.serde_json.specs.Data.{Data}
use Rattle.serde_json.specs.Written.{compact_text}
use Rattle.document_changes.specs.Changes.{KindData, create, drop_index, replace, update, remove, clear, patch, reset, ChangeData}
use Rattle.doc_values.specs.Stored.{document_at}
use Rattle.change_payloads.specs.Fields.{◌>>=◌, number_at, piece_at, held_or, utf8_of, json_of, ids_of, text_at, json_at, ids_at, stored_at, optional_at, documents_at, counted_at}
use Rattle.change_payloads.specs.Change.{Spot, spot, kind_at, create_at, stored_with, remove_at, patch_at, body_at, whole_change, or_spot, change_at}
use Rattle.change_payloads.specs.Fits.{IsKey, IsStored, AreStored, AreIds, IsJson, IsKind, IsChange}
use Rattle.change_payloads.specs.Spelling.{text, json, texts_data, kind_byte}
use Rattle.change_payloads.proofs.Again.{number_again, piece_again, text_again}
use Rattle.damage_laws.specs.Agrees.{AgreesThrough}
use Rattle.damage_laws.specs.Fields.{optional_fields, documents_fields, body_fields, change_fields}
use Rattle.damage_laws.proofs.Tells.{Within, LeftWithin, IsBounded, NoneSoFar, Tells, within_bind, left_bind, within_either, nothing_tells, front_tells, field_tells, then_tells, map_tells}

-- ---- what fields leave

pub number_within : (w : Width) (bytes : List ℕ) → Within (length bytes) (number_at w bytes)
number_within w bytes = within_either (length bytes) (ltb (length bytes) (byte_len w)) (Err (length bytes)) (Ok (from_le_bytes w (take (byte_len w) bytes), drop (byte_len w) bytes)) (omega arith) (omega (arith, length-drop (byte_len w) bytes))

-- the bytes of a piece and those behind it are no more than there were
abbrev pub PieceWithin : ℕ → Result (List ℕ × List ℕ) ℕ → Type 0
PieceWithin n (Ok piece) = length piece.0 + length piece.1 ≤ n
PieceWithin n (Err left) = left ≤ n

pub piece_within : (w : Width) (bytes : List ℕ) → PieceWithin (length bytes) (piece_at w bytes)
unfolding piece_at
piece_within w bytes = by (number_at w bytes) (number_within w bytes)
  where
    cut : (n : ℕ × List ℕ) (b : Bool) → length n.1 ≤ length bytes → PieceWithin (length bytes) (cond b (Err (length bytes)) (Ok (take n.0 n.1, drop n.0 n.1)))
    cut n true is = omega arith
    cut n false is = omega (arith, is, length-take n.0 n.1, length-drop n.0 n.1)

    by : (r : Result (ℕ × List ℕ) ℕ) → Within (length bytes) r → PieceWithin (length bytes) (r >>= λ n. cond (ltb (length n.1) n.0) (Err (length bytes)) (Ok (take n.0 n.1, drop n.0 n.1)))
    by (Ok n) is = cut n (ltb (length n.1) n.0) is
    by (Err left) is = is

pub held_within : {X : Type 0} (n : ℕ) (held : List ℕ → Option X) (r : Result (List ℕ × List ℕ) ℕ) → PieceWithin n r → Within n (r >>= λ piece. held_or piece (held piece.0))
held_within {X} n held (Ok piece) is = by (held piece.0)
  where
    by : (o : Option X) → Within n (held_or piece o)
    by (Some x) = omega (arith, is)
    by None = omega (arith, is)
held_within n held (Err left) is = is

pub text_within : (bytes : List ℕ) → Within (length bytes) (text_at bytes)
unfolding text_at
text_within bytes = held_within (length bytes) utf8_of (piece_at w32 bytes) (piece_within w32 bytes)

json_within : (bytes : List ℕ) → Within (length bytes) (json_at bytes)
unfolding json_at
json_within bytes = held_within (length bytes) json_of (piece_at w32 bytes) (piece_within w32 bytes)

ids_within : (bytes : List ℕ) → Within (length bytes) (ids_at bytes)
unfolding ids_at
ids_within bytes = held_within (length bytes) ids_of (piece_at w32 bytes) (piece_within w32 bytes)

stored_within : (bytes : List ℕ) → Within (length bytes) (stored_at bytes)
unfolding stored_at
stored_within bytes = held_within (length bytes) document_at (piece_at w32 bytes) (piece_within w32 bytes)

pub optional_within : (bytes : List ℕ) → Within (length bytes) (optional_at bytes)
unfolding optional_at
optional_within [] = omega arith
optional_within (zero ∷ rest) = omega arith
optional_within (suc zero ∷ rest) = within_bind (length (1 ∷ rest)) (text_at rest) (λ t. Ok (Some t.0, t.1)) (more (text_at rest) (text_within rest)) (λ t. omega arith)
  where
    more : (r : Result (List ℕ × List ℕ) ℕ) → Within (length rest) r → Within (length (1 ∷ rest)) r
    more (Ok x) is = omega (arith, is)
    more (Err left) is = omega (arith, is)
optional_within (suc (suc byte) ∷ rest) = omega arith

documents_within : (n : ℕ) (bytes : List ℕ) → Within (length bytes) (documents_at n bytes)
unfolding documents_at
documents_within zero bytes = omega arith
documents_within (suc n) bytes = within_bind (length bytes) (stored_at bytes) _ (stored_within bytes)
    (λ first. within_bind (length first.1) (documents_at n first.1) (λ others. Ok (first.0 ∷ others.0, others.1)) (documents_within n first.1) (λ others. omega arith))

counted_within : (bytes : List ℕ) → Within (length bytes) (counted_at bytes)
unfolding counted_at
counted_within bytes = within_bind (length bytes) (number_at w32 bytes) (λ n. documents_at n.0 n.1) (number_within w32 bytes) (λ n. documents_within n.0 n.1)

pub kind_within : (bytes : List ℕ) → Within (length bytes) (kind_at bytes)
unfolding kind_at
kind_within [] = omega arith
kind_within (byte ∷ bytes) = within_either (length (byte ∷ bytes)) (eqb byte 0 || ltb 8 byte) (Err (length (byte ∷ bytes))) (Ok (byte, bytes)) (omega arith) (omega arith)

stored_with_within : (made : Option (List ℕ) → List Data → KindData) (bytes : List ℕ) → Within (length bytes) (stored_with made bytes)
unfolding stored_with
stored_with_within made bytes = within_bind (length bytes) (optional_at bytes) _ (optional_within bytes)
    (λ key. within_bind (length key.1) (counted_at key.1) (λ ds. Ok (made key.0 ds.0, ds.1)) (counted_within key.1) (λ ds. omega arith))

create_within : (bytes : List ℕ) → Within (length bytes) (create_at bytes)
unfolding create_at
create_within bytes = within_bind (length bytes) (optional_at bytes) (λ key. Ok (create key.0, key.1)) (optional_within bytes) (λ key. omega arith)

remove_within : (bytes : List ℕ) → Within (length bytes) (remove_at bytes)
unfolding remove_at
remove_within bytes = within_bind (length bytes) (ids_at bytes) (λ ids. Ok (remove ids.0, ids.1)) (ids_within bytes) (λ ids. omega arith)

patch_within : (bytes : List ℕ) → Within (length bytes) (patch_at bytes)
unfolding patch_at
patch_within bytes = within_bind (length bytes) (json_at bytes) (λ d. Ok (patch d.0, d.1)) (json_within bytes) (λ d. omega arith)

body_within : (byte : ℕ) (bytes : List ℕ) → Within (length bytes) (body_at byte bytes)
unfolding body_at
body_within byte bytes =
    let n = length bytes in
    within_either n (eqb byte 1) _ _ (create_within bytes)
    (within_either n (eqb byte 2) _ _ (omega arith)
    (within_either n (eqb byte 3) _ _ (stored_with_within replace bytes)
    (within_either n (eqb byte 4) _ _ (stored_with_within update bytes)
    (within_either n (eqb byte 5) _ _ (remove_within bytes)
    (within_either n (eqb byte 6) _ _ (omega arith)
    (within_either n (eqb byte 7) _ _ (patch_within bytes) (omega arith)))))))

-- ---- what fields tell

json_again : (d : Data) (rest : List ℕ) → IsJson d → json_at (json d ++ rest) ≡ Ok (d, rest)
unfolding json_at
json_again d rest h = rw (piece_again (compact_text d) rest h.short, h.back) refl

ids_again : (ids : List (List ℕ)) (rest : List ℕ) → AreIds ids → ids_at (json (texts_data ids) ++ rest) ≡ Ok (ids, rest)
unfolding ids_at
ids_again ids rest h = rw (piece_again (compact_text (texts_data ids)) rest h.short, h.back) refl

stored_again : (d : Data) (rest : List ℕ) → IsStored d → stored_at (json d ++ rest) ≡ Ok (d, rest)
unfolding stored_at
stored_again d rest h = rw (piece_again (compact_text d) rest h.short, h.back) refl

pub optional_tells : (B : Type 0) (key : Option (List ℕ)) → IsKey key → Tells B optional_at key (optional_fields key)
unfolding optional_at
optional_tells B None is = field_tells B optional_at None (0 ∷ []) (λ rest. refl)
optional_tells B (Some key) is =
    front_tells B optional_at (λ rest. text_at rest >>= λ t. Ok (Some t.0, t.1)) (Some key) (1 ∷ []) (text key ∷ []) (λ rest. refl)
    (λ rest. within_bind (length rest) (text_at rest) (λ t. Ok (Some t.0, t.1)) (text_within rest) (λ t. omega arith))
    (map_tells B text_at (λ t. Some t) key (text key ∷ []) (field_tells B text_at key (text key) (λ rest. text_again key rest is)))

documents_tell : (B : Type 0) (ds : List Data) → AllByRecursion IsStored ds → Tells B (documents_at (length ds)) ds (map json ds)
unfolding documents_at
documents_tell B [] all = nothing_tells B []
documents_tell B (d ∷ ds) all =
    then_tells B stored_at (λ first. documents_at (length ds) first.1 >>= λ others. Ok (first.0 ∷ others.0, others.1)) d (d ∷ ds) (json d ∷ []) (map json ds)
    (field_tells B stored_at d (json d) (λ rest. stored_again d rest all.0))
    (λ first. within_bind (length first.1) (documents_at (length ds) first.1) (λ others. Ok (first.0 ∷ others.0, others.1)) (documents_within (length ds) first.1) (λ others. omega arith))
    (map_tells B (documents_at (length ds)) (λ others. d ∷ others) ds (map json ds) (documents_tell B ds all.1))

counted_tell : (B : Type 0) (ds : List Data) → AreStored ds → Tells B counted_at ds (documents_fields ds)
unfolding counted_at
counted_tell B ds are =
    then_tells B (number_at w32) (λ n. documents_at n.0 n.1) (length ds) ds (to_le_bytes w32 (length ds) ∷ []) (map json ds)
    (field_tells B (number_at w32) (length ds) (to_le_bytes w32 (length ds)) (λ rest. number_again (length ds) rest are.few))
    (λ n. documents_within n.0 n.1) (documents_tell B ds are.each)

stored_with_tells : (B : Type 0) (made : Option (List ℕ) → List Data → KindData) (key : Option (List ℕ)) (ds : List Data) → IsKey key → AreStored ds
    → Tells B (stored_with made) (made key ds) (optional_fields key ++ documents_fields ds)
unfolding stored_with
stored_with_tells B made key ds is are =
    then_tells B optional_at (λ key. counted_at key.1 >>= λ ds. Ok (made key.0 ds.0, ds.1)) key (made key ds) (optional_fields key) (documents_fields ds)
    (optional_tells B key is)
    (λ key. within_bind (length key.1) (counted_at key.1) (λ ds. Ok (made key.0 ds.0, ds.1)) (counted_within key.1) (λ ds. omega arith))
    (map_tells B counted_at (made key) ds (documents_fields ds) (counted_tell B ds are))

body_tells : (B : Type 0) (kind : KindData) → IsKind kind → Tells B (body_at (kind_byte kind)) kind (body_fields kind)
unfolding body_at create_at remove_at patch_at
body_tells B (create key) is = map_tells B optional_at create key (optional_fields key) (optional_tells B key is)
body_tells B drop_index is = nothing_tells B drop_index
body_tells B (replace key ds) is = stored_with_tells B replace key ds is.0 is.1
body_tells B (update key ds) is = stored_with_tells B update key ds is.0 is.1
body_tells B (remove ids) is = map_tells B ids_at remove ids (json (texts_data ids) ∷ []) (field_tells B ids_at ids (json (texts_data ids)) (λ rest. ids_again ids rest is))
body_tells B clear is = nothing_tells B clear
body_tells B (patch members) is = map_tells B json_at patch members (json members ∷ []) (field_tells B json_at members (json members) (λ rest. json_again members rest is))
body_tells B reset is = nothing_tells B reset

kind_again : (kind : KindData) (rest : List ℕ) → kind_at (kind_byte kind ∷ rest) ≡ Ok (kind_byte kind, rest)
unfolding kind_at
kind_again (create key) rest = refl
kind_again drop_index rest = refl
kind_again (replace key ds) rest = refl
kind_again (update key ds) rest = refl
kind_again (remove ids) rest = refl
kind_again clear rest = refl
kind_again (patch members) rest = refl
kind_again reset rest = refl

pub known_kind_again : (kind : ℕ) (rest : List ℕ) → 0 < kind → kind ≤ 8 → kind_at ((kind ∷ []) ++ rest) ≡ Ok (kind, rest)
unfolding kind_at
known_kind_again kind rest some known =
    let not_zero : eqb kind 0 ≡ false = ne_eqb kind 0 (λ e. omega (arith, e, some)) in
    rw (not_zero, le-ltb 8 kind known) refl

-- ---- the whole

-- no byte is left
pub left_none : {A : Type 0} (a : A) (rest : List ℕ) → LeftWithin (length rest) (cond (eqb (length rest) 0) (Ok a) (Err (length rest)))
left_none a rest = by (eqb (length rest) 0)
  where
    by : (b : Bool) → LeftWithin (length rest) (cond b (Ok a) (Err (length rest)))
    by true = tt
    by false = omega arith

pub none_behind : {A : Type 0} (a : A) → NoneSoFar (λ rest. cond (eqb (length rest) 0) (Ok a) (Err (length rest))) []
none_behind a bytes left fails agrees = absurd (by bytes agrees fails)
  where
    by : (rest : List ℕ) → rest ≡ [] → cond (eqb (length rest) 0) (Ok a) (Err (length rest)) ≡ Err left → ⊥
    by [] is e = absurd cc
    by (b ∷ rest) is e = absurd cc

abbrev ended : List ℕ → KindData × List ℕ → Result ChangeData ℕ
ended uid kind = cond (eqb (length kind.1) 0) (Ok (record { uid = uid; kind = kind.0 })) (Err (length kind.1))

whole_none : (c : ChangeData) → IsChange c → NoneSoFar whole_change (change_fields c)
unfolding whole_change
whole_none c is =
    let after_uid : ℕ → List ℕ × List ℕ → Result ChangeData ℕ = λ byte uid. body_at byte uid.1 >>= ended uid.0 in
    let bound : (byte : ℕ) → IsBounded (after_uid byte) = λ byte uid. left_bind (length uid.1) (body_at byte uid.1) (ended uid.0) (body_within byte uid.1) (λ kind. left_none (record { uid = uid.0; kind = kind.0 }) kind.1) in
    let body_none : NoneSoFar (λ rest. body_at (kind_byte c.kind) rest >>= ended c.uid) (body_fields c.kind) =
    subst (NoneSoFar (λ rest. body_at (kind_byte c.kind) rest >>= ended c.uid)) (append-nil (body_fields c.kind))
    (body_tells ChangeData c.kind is.kind (ended c.uid) [] (λ kind. left_none (record { uid = c.uid; kind = kind.0 }) kind.1) (none_behind (record { uid = c.uid; kind = c.kind }))) in
    let uid_none : NoneSoFar (λ rest. text_at rest >>= after_uid (kind_byte c.kind)) (text c.uid ∷ body_fields c.kind) =
    field_tells ChangeData text_at c.uid (text c.uid) (λ rest. text_again c.uid rest is.uid) (after_uid (kind_byte c.kind)) (body_fields c.kind) (bound (kind_byte c.kind)) body_none in
    field_tells ChangeData kind_at (kind_byte c.kind) (kind_byte c.kind ∷ []) (kind_again c.kind) (λ byte. text_at byte.1 >>= after_uid byte.0) (text c.uid ∷ body_fields c.kind)
    (λ byte. left_bind (length byte.1) (text_at byte.1) (after_uid byte.0) (text_within byte.1) (bound byte.0)) uid_none

pub no_change_so_far : (bytes : List ℕ) (damage : Spot) (c : ChangeData) → change_at bytes ≡ Err damage → IsChange c → AgreesThrough damage.place (change_fields c) bytes → ⊥
no_change_so_far bytes damage c fails is agrees = by (whole_change bytes) refl fails
  where
    by : (r : Result ChangeData ℕ) → whole_change bytes ≡ r → or_spot bytes r ≡ Err damage → ⊥
    by (Ok x) at e = absurd cc
    by (Err left) at e =
        let same : spot bytes left ≡ damage = cc in
        whole_none c is bytes left at (subst (λ (d : Spot). AgreesThrough d.place (change_fields c) bytes) (sym same) agrees)
