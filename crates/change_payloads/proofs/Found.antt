-- What is read of bytes is spelled so.
use Rattle.std.proofs.Common.{◌≡◌, ℕ, zero, suc, ◌+◌, ◌<◌, ◌≤◌, Bool, true, false, cond, ltb, eqb, List, [], ◌∷◌, ◌++◌, length, get_or, take, drop, map, Option, Some, None, Result, Ok, Err, refl, sym, ap, subst, ◌∙◌, append_assoc, append-nil, arith, inl, inr}
use Rattle.std.proofs.lemmas.Bool.{cases_lt, ltb-false, eqb-true, eqb-false, and_parts, or_parts}
use Rattle.std.proofs.lemmas.List.{take-append-drop, length-take, get_or-drop, get_or-take, get_or_past}
use Rattle.std.proofs.lemmas.List.Concat.{flat_map-cons}
use Rattle.std.proofs.lemmas.Nat.{le_bytes_4}
use Rattle.std.proofs.lemmas.Slice.Eq.{bytes_eq-Decides}
use Rattle.std.specs.Int.{w32, byte_len, from_le_bytes, to_le_bytes}
use Rattle.std.specs.List.{flat_map}
use Rattle.std.specs.Prelude.{option_and_then, not, ◌&&◌, ◌||◌, IfOk}
use Rattle.std.specs.Str.{is_utf8, bytes_eq}
use Rattle.serde_json.specs.Data.{Data, null, boolean, number, string, array, object, Items, no_items, item}
use Rattle.serde_json.specs.Find.{as_str}
use Rattle.serde_json.specs.Read.{read}
use Rattle.serde_json.specs.View.{items_of}
use Rattle.serde_json.specs.Written.{compact_text, has_float}
use Rattle.document_changes.specs.declared.change.Change.{Change}
use Rattle.document_changes.specs.Changes.{change_view, KindData, create, drop_index, replace, update, remove, clear, patch, reset, ChangeData}
use Rattle.doc_values.specs.Stored.{document_at, at_value, if_text}
use Rattle.std.specs.Result.{result_ok}
use Rattle.doc_values.specs.Walk.{document_of}
use Rattle.change_payloads.specs.declared.fault.ImageFault.{ImageFault}
use Rattle.change_payloads.specs.Answers.{Decodes}
use Rattle.change_payloads.specs.Spelling.{text, optional, json, texts_data, documents, kind_byte, body, change}
use Rattle.change_payloads.specs.Fields.{◌>>=◌, number_at, piece_at, held_or, utf8_of, if_own, json_of, with_text, item_texts, texts_of, ids_of, text_at, json_at, ids_at, stored_at, optional_at, documents_at, counted_at}
use Rattle.change_payloads.specs.Change.{kind_at, create_at, stored_with, remove_at, patch_at, body_at, whole_change, or_spot, change_at}

abbrev pub IsBytes : List ℕ → Type 0
IsBytes bytes = (i : ℕ) → get_or bytes i 0 < 256

pub IsBytes-drop : (n : ℕ) (bytes : List ℕ) → IsBytes bytes → IsBytes (drop n bytes)
IsBytes-drop n bytes h i = rw get_or-drop (h (n + i))

pub IsBytes-take : (n : ℕ) (bytes : List ℕ) → IsBytes bytes → IsBytes (take n bytes)
IsBytes-take n bytes h i =
    elim (cases_lt i n) [
      | inl lt ↦ rw (get_or-take n bytes i 0 lt) (h i)
      | inr le ↦ rw (get_or_past (take n bytes) i 0 (omega (arith, length-take n bytes))) (omega arith)
    ]

pub IsBytes-rest : (b : ℕ) (bytes : List ℕ) → IsBytes (b ∷ bytes) → IsBytes bytes
IsBytes-rest b bytes h i = h (suc i)

-- ---- steps that did not fail

pub bind_ok : {A B : Type 0} (r : Result A ℕ) (f : A → Result B ℕ) (y : B) → (r >>= f) ≡ Ok y → (x : A) × (r ≡ Ok x) × (f x ≡ Ok y)
bind_ok (Ok x) f y e = (x, refl, e)
bind_ok (Err left) f y e = absurd cc

pub guard_ok : {A : Type 0} (b : Bool) (left : ℕ) (x y : A) → cond b (Err left) (Ok x) ≡ Ok y → (b ≡ false) × (x ≡ y)
guard_ok true left x y e = absurd cc
guard_ok false left x y e = (refl, cc)

pub guard_ended : {A : Type 0} (b : Bool) (left : ℕ) (x y : A) → cond b (Ok x) (Err left) ≡ Ok y → (b ≡ true) × (x ≡ y)
guard_ended true left x y e = (refl, cc)
guard_ended false left x y e = absurd cc

abbrev pub done : {A : Type 0} → A → Result A ℕ
done x = Ok x

pub ok_is : {A : Type 0} (x y : A) → done x ≡ done y → x ≡ y
ok_is x y e = cc

pub if_some : {A : Type 0} (b : Bool) (o : Option A) (x : A) → cond b o None ≡ Some x → (b ≡ true) × (o ≡ Some x)
if_some true o x e = (refl, e)
if_some false o x e = absurd cc

pub some_is : {A : Type 0} (x y : A) (o : Option A) → o ≡ Some x → o ≡ Some y → x ≡ y
some_is x y o e f = cc

pub then_some : {A B : Type 0} (f : A → Option B) (o : Option A) (y : B) → option_and_then f o ≡ Some y → (x : A) × (o ≡ Some x) × (f x ≡ Some y)
then_some f None y e = absurd cc
then_some f (Some x) y e = (x, refl, e)

pub held_ok : {A : Type 0} (piece : List ℕ × List ℕ) (o : Option A) (x : A) (rest : List ℕ) → held_or piece o ≡ Ok (x, rest) → (o ≡ Some x) × (piece.1 ≡ rest)
held_ok piece None x rest e = absurd cc
held_ok piece (Some y) x rest e = let same : (y, piece.1) ≡ (x, rest) = ok_is (y, piece.1) (x, rest) e in (ap (λ p. Some p.0) same, ap (λ p. p.1) same)

-- what a reader took from the front
pub record Takes (bytes front rest : List ℕ) : Type 0 where
  pub parts : bytes ≡ front ++ rest
  pub rest_fits : IsBytes rest

pub Takes-then : (a x b y c : List ℕ) → Takes a x b → Takes b y c → Takes a (x ++ y) c
Takes-then a x b y c p q = record { parts = p.parts ∙ ap (λ (t : List ℕ). x ++ t) q.parts ∙ sym (append_assoc x y c); rest_fits = q.rest_fits }

-- ---- numbers and texts

pub number_takes : (bytes : List ℕ) (n : ℕ) (rest : List ℕ) → IsBytes bytes → number_at w32 bytes ≡ Ok (n, rest) → Takes bytes (to_le_bytes w32 n) rest
number_takes bytes n rest fits e =
    let g = guard_ok (ltb (length bytes) (byte_len w32)) (length bytes) (from_le_bytes w32 (take (byte_len w32) bytes), drop (byte_len w32) bytes) (n, rest) e in
    let n-is : from_le_bytes w32 (take (byte_len w32) bytes) ≡ n = ap (λ (p : ℕ × List ℕ). p.0) g.1 in
    let rest-is : drop (byte_len w32) bytes ≡ rest = ap (λ (p : ℕ × List ℕ). p.1) g.1 in
    let long : byte_len w32 ≤ length bytes = ltb-false _ _ g.0 in
    let front : to_le_bytes w32 n ≡ take (byte_len w32) bytes = le_bytes_4 (take (byte_len w32) bytes) n (omega (arith, length-take (byte_len w32) bytes)) (IsBytes-take (byte_len w32) bytes fits) (sym n-is) in
    record { parts = sym (take-append-drop (byte_len w32) bytes) ∙ ap (λ (t : List ℕ). t ++ drop (byte_len w32) bytes) (sym front) ∙ ap (λ (t : List ℕ). to_le_bytes w32 n ++ t) rest-is; rest_fits = subst IsBytes rest-is (IsBytes-drop (byte_len w32) bytes fits) }

piece_takes : (bytes front rest : List ℕ) → IsBytes bytes → piece_at w32 bytes ≡ Ok (front, rest) → Takes bytes (text front) rest
unfolding piece_at
piece_takes bytes front rest fits e =
    let b = bind_ok (number_at w32 bytes) (λ n. cond (ltb (length n.1) n.0) (Err (length bytes)) (Ok (take n.0 n.1, drop n.0 n.1))) (front, rest) e in
    let n = b.0 in
    let t = number_takes bytes n.0 n.1 fits b.1 in
    let g = guard_ok (ltb (length n.1) n.0) (length bytes) (take n.0 n.1, drop n.0 n.1) (front, rest) b.2 in
    let long : n.0 ≤ length n.1 = ltb-false _ _ g.0 in
    let len : length (take n.0 n.1) ≡ n.0 = omega (arith, length-take n.0 n.1) in
    let second : Takes n.1 (take n.0 n.1) (drop n.0 n.1) = record { parts = sym (take-append-drop n.0 n.1); rest_fits = IsBytes-drop n.0 n.1 t.rest_fits } in
    let both = Takes-then bytes (to_le_bytes w32 n.0) n.1 (take n.0 n.1) (drop n.0 n.1) t second in
    let whole : Takes bytes (text (take n.0 n.1)) (drop n.0 n.1) = subst (λ (k : ℕ). Takes bytes (to_le_bytes w32 k ++ take n.0 n.1) (drop n.0 n.1)) (sym len) both in
    subst (λ (p : List ℕ × List ℕ). Takes bytes (text p.0) p.1) g.1 whole

-- a piece that holds a value, whose bytes are known from the value
held_takes : {A : Type 0} (held : List ℕ → Option A) (spelled : A → List ℕ) → ((front : List ℕ) (x : A) → held front ≡ Some x → front ≡ spelled x)
    → (bytes : List ℕ) (x : A) (rest : List ℕ) → IsBytes bytes → (piece_at w32 bytes >>= λ piece. held_or piece (held piece.0)) ≡ Ok (x, rest) → Takes bytes (text (spelled x)) rest
held_takes held spelled own bytes x rest fits e =
    let b = bind_ok (piece_at w32 bytes) (λ piece. held_or piece (held piece.0)) (x, rest) e in
    let h = held_ok b.0 (held b.0.0) x rest b.2 in
    let t = piece_takes bytes b.0.0 b.0.1 fits b.1 in
    subst (λ (r : List ℕ). Takes bytes (text (spelled x)) r) h.1 (subst (λ (f : List ℕ). Takes bytes (text f) b.0.1) (own b.0.0 x h.0) t)

utf8_own : (front t : List ℕ) → utf8_of front ≡ Some t → front ≡ t
utf8_own front t e = let h = if_some (is_utf8 front) (Some front) t e in some_is front t (Some front) refl h.1

json_own : (front : List ℕ) (d : Data) → json_of front ≡ Some d → front ≡ compact_text d
json_own front d e =
    let a = if_some (is_utf8 front) (option_and_then (if_own front) (read front)) d e in
    let b = then_some (if_own front) (read front) d a.1 in
    let g = if_some (not (has_float b.0) && bytes_eq (compact_text b.0) front) (Some b.0) d b.2 in
    let same : compact_text b.0 ≡ front = (bytes_eq-Decides (compact_text b.0) front).0 (and_parts (not (has_float b.0)) (bytes_eq (compact_text b.0) front) g.0).1 in
    sym same ∙ ap compact_text (some_is b.0 d (Some b.0) refl g.1)

pub document_own : (front : List ℕ) (d : Data) → document_at front ≡ Some d → front ≡ compact_text d
document_own front d e =
    let a = if_some (is_utf8 front) (at_value front (read front)) d e in
    let b = then_some (λ v. option_and_then (if_text front) (result_ok (document_of v))) (read front) d a.1 in
    let f = then_some (if_text front) (result_ok (document_of b.0)) d b.2 in
    let g = if_some (bytes_eq (compact_text f.0) front) (Some f.0) d f.2 in
    sym ((bytes_eq-Decides (compact_text f.0) front).0 g.0) ∙ ap compact_text (some_is f.0 d (Some f.0) refl g.1)

string_own : (d : Data) (t : List ℕ) → as_str d ≡ Some t → d ≡ string t
string_own null t e = cc
string_own (boolean b) t e = cc
string_own (number n) t e = cc
string_own (string s) t e = cc
string_own (array ds) t e = cc
string_own (object ms) t e = cc

with_text_some : (o : Option (List ℕ)) (m : Option (List (List ℕ))) (ts : List (List ℕ)) → with_text o m ≡ Some ts
    → (t : List ℕ) × (ss : List (List ℕ)) × (o ≡ Some t) × (m ≡ Some ss) × (t ∷ ss ≡ ts)
with_text_some None m ts e = absurd cc
with_text_some (Some t) None ts e = absurd cc
with_text_some (Some t) (Some ss) ts e = (t, ss, refl, refl, some_is (t ∷ ss) ts (Some (t ∷ ss)) refl e)

items_own : (ds : Items) (ts : List (List ℕ)) → item_texts ds ≡ Some ts → ds ≡ items_of (map string ts)
items_own no_items ts e = ap (λ (xs : List (List ℕ)). items_of (map string xs)) (some_is [] ts (Some []) refl e)
items_own (item d ds) ts e =
    let h = with_text_some (as_str d) (item_texts ds) ts e in
    rw (← h.4) (ap (λ x. item x ds) (string_own d h.0 h.2) ∙ ap (item (string h.0)) (items_own ds h.1 h.3))

texts_own : (d : Data) (ts : List (List ℕ)) → texts_of d ≡ Some ts → d ≡ texts_data ts
texts_own null ts e = cc
texts_own (boolean b) ts e = cc
texts_own (number n) ts e = cc
texts_own (string s) ts e = cc
texts_own (array ds) ts e = ap array (items_own ds ts e)
texts_own (object ms) ts e = cc

ids_own : (front : List ℕ) (ts : List (List ℕ)) → ids_of front ≡ Some ts → front ≡ compact_text (texts_data ts)
ids_own front ts e =
    let b = then_some texts_of (json_of front) ts e in
    json_own front b.0 b.1 ∙ ap compact_text (texts_own b.0 ts b.2)

pub text_takes : (bytes t rest : List ℕ) → IsBytes bytes → text_at bytes ≡ Ok (t, rest) → Takes bytes (text t) rest
unfolding text_at
text_takes bytes t rest fits e = held_takes utf8_of (λ t. t) utf8_own bytes t rest fits e

json_takes : (bytes : List ℕ) (d : Data) (rest : List ℕ) → IsBytes bytes → json_at bytes ≡ Ok (d, rest) → Takes bytes (json d) rest
unfolding json_at
json_takes bytes d rest fits e = held_takes json_of compact_text json_own bytes d rest fits e

ids_take : (bytes : List ℕ) (ts : List (List ℕ)) (rest : List ℕ) → IsBytes bytes → ids_at bytes ≡ Ok (ts, rest) → Takes bytes (json (texts_data ts)) rest
unfolding ids_at
ids_take bytes ts rest fits e = held_takes ids_of (λ ts. compact_text (texts_data ts)) ids_own bytes ts rest fits e

stored_takes : (bytes : List ℕ) (d : Data) (rest : List ℕ) → IsBytes bytes → stored_at bytes ≡ Ok (d, rest) → Takes bytes (json d) rest
unfolding stored_at
stored_takes bytes d rest fits e = held_takes document_at compact_text document_own bytes d rest fits e

pub optional_takes : (bytes : List ℕ) (o : Option (List ℕ)) (rest : List ℕ) → IsBytes bytes → optional_at bytes ≡ Ok (o, rest) → Takes bytes (optional o) rest
unfolding optional_at
optional_takes [] o rest fits e = absurd cc
optional_takes (zero ∷ bytes) o rest fits e =
    subst (λ (x : Option (List ℕ) × List ℕ). Takes (0 ∷ bytes) (optional x.0) x.1) (ok_is (None, bytes) (o, rest) e) (record { parts = refl; rest_fits = IsBytes-rest 0 bytes fits })
optional_takes (suc zero ∷ bytes) o rest fits e =
    let b = bind_ok (text_at bytes) (λ t. Ok (Some t.0, t.1)) (o, rest) e in
    let t = text_takes bytes b.0.0 b.0.1 (IsBytes-rest 1 bytes fits) b.1 in
    subst (λ (x : Option (List ℕ) × List ℕ). Takes (1 ∷ bytes) (optional x.0) x.1) (ok_is (Some b.0.0, b.0.1) (o, rest) b.2) (record { parts = ap (λ (w : List ℕ). 1 ∷ w) t.parts; rest_fits = t.rest_fits })
optional_takes (suc (suc b) ∷ bytes) o rest fits e = absurd cc

documents_take : (n : ℕ) (bytes : List ℕ) (x : List Data × List ℕ) → IsBytes bytes → documents_at n bytes ≡ Ok x → Takes bytes (flat_map json x.0) x.1 × (length x.0 ≡ n)
unfolding documents_at
documents_take zero bytes x fits e =
    subst (λ (y : List Data × List ℕ). Takes bytes (flat_map json y.0) y.1 × (length y.0 ≡ 0)) (ok_is ([], bytes) x e) (record { parts = refl; rest_fits = fits }, refl)
documents_take (suc n) bytes x fits e =
    let a = bind_ok (stored_at bytes) (λ first. documents_at n first.1 >>= λ others. Ok (first.0 ∷ others.0, others.1)) x e in
    let b = bind_ok (documents_at n a.0.1) (λ others. Ok (a.0.0 ∷ others.0, others.1)) x a.2 in
    let first = stored_takes bytes a.0.0 a.0.1 fits a.1 in
    let second = documents_take n a.0.1 b.0 first.rest_fits b.1 in
    let both = Takes-then bytes (json a.0.0) a.0.1 (flat_map json b.0.0) b.0.1 first second.0 in
    let made : List Data × List ℕ = (a.0.0 ∷ b.0.0, b.0.1) in
    subst (λ (y : List Data × List ℕ). Takes bytes (flat_map json y.0) y.1 × (length y.0 ≡ suc n)) (ok_is made x b.2) (rw flat_map-cons both, ap suc second.1)

counted_take : (bytes : List ℕ) (x : List Data × List ℕ) → IsBytes bytes → counted_at bytes ≡ Ok x → Takes bytes (documents x.0) x.1
unfolding counted_at
counted_take bytes x fits e =
    let a = bind_ok (number_at w32 bytes) (λ n. documents_at n.0 n.1) x e in
    let first = number_takes bytes a.0.0 a.0.1 fits a.1 in
    let second = documents_take a.0.0 a.0.1 x first.rest_fits a.2 in
    let counted : Takes bytes (to_le_bytes w32 (length x.0)) a.0.1 = subst (λ (k : ℕ). Takes bytes (to_le_bytes w32 k) a.0.1) (sym second.1) first in
    Takes-then bytes (to_le_bytes w32 (length x.0)) a.0.1 (flat_map json x.0) x.1 counted second.0

-- ---- kinds

abbrev IsBody : ℕ → List ℕ → KindData × List ℕ → Type 0
IsBody byte bytes x = Takes bytes (body x.0) x.1 × (kind_byte x.0 ≡ byte)

is_body : (byte : ℕ) (bytes : List ℕ) (made x : KindData × List ℕ) → done made ≡ Ok x → IsBody byte bytes made → IsBody byte bytes x
is_body byte bytes made x e h = subst (IsBody byte bytes) (ok_is made x e) h

create_takes : (bytes : List ℕ) (x : KindData × List ℕ) → IsBytes bytes → create_at bytes ≡ Ok x → IsBody 1 bytes x
unfolding create_at
create_takes bytes x fits e =
    let a = bind_ok (optional_at bytes) (λ key. Ok (create key.0, key.1)) x e in
    is_body 1 bytes (create a.0.0, a.0.1) x a.2 (optional_takes bytes a.0.0 a.0.1 fits a.1, refl)

stored_parts : (made : Option (List ℕ) → List Data → KindData) (bytes : List ℕ) (x : KindData × List ℕ) → IsBytes bytes → stored_with made bytes ≡ Ok x
    → (key : Option (List ℕ)) × (ds : List Data) × (rest : List ℕ) × Takes bytes (optional key ++ documents ds) rest × (done (made key ds, rest) ≡ Ok x)
unfolding stored_with
stored_parts made bytes x fits e =
    let a = bind_ok (optional_at bytes) (λ key. counted_at key.1 >>= λ ds. Ok (made key.0 ds.0, ds.1)) x e in
    let b = bind_ok (counted_at a.0.1) (λ ds. Ok (made a.0.0 ds.0, ds.1)) x a.2 in
    let first = optional_takes bytes a.0.0 a.0.1 fits a.1 in
    let second = counted_take a.0.1 b.0 first.rest_fits b.1 in
    (a.0.0, b.0.0, b.0.1, Takes-then bytes (optional a.0.0) a.0.1 (documents b.0.0) b.0.1 first second, b.2)

replace_takes : (bytes : List ℕ) (x : KindData × List ℕ) → IsBytes bytes → stored_with replace bytes ≡ Ok x → IsBody 3 bytes x
replace_takes bytes x fits e =
    let p = stored_parts replace bytes x fits e in
    is_body 3 bytes (replace p.0 p.1, p.2) x p.4 (p.3, refl)

update_takes : (bytes : List ℕ) (x : KindData × List ℕ) → IsBytes bytes → stored_with update bytes ≡ Ok x → IsBody 4 bytes x
update_takes bytes x fits e =
    let p = stored_parts update bytes x fits e in
    is_body 4 bytes (update p.0 p.1, p.2) x p.4 (p.3, refl)

remove_takes : (bytes : List ℕ) (x : KindData × List ℕ) → IsBytes bytes → remove_at bytes ≡ Ok x → IsBody 5 bytes x
unfolding remove_at
remove_takes bytes x fits e =
    let a = bind_ok (ids_at bytes) (λ ids. Ok (remove ids.0, ids.1)) x e in
    is_body 5 bytes (remove a.0.0, a.0.1) x a.2 (ids_take bytes a.0.0 a.0.1 fits a.1, refl)

patch_takes : (bytes : List ℕ) (x : KindData × List ℕ) → IsBytes bytes → patch_at bytes ≡ Ok x → IsBody 7 bytes x
unfolding patch_at
patch_takes bytes x fits e =
    let a = bind_ok (json_at bytes) (λ members. Ok (patch members.0, members.1)) x e in
    is_body 7 bytes (patch a.0.0, a.0.1) x a.2 (json_takes bytes a.0.0 a.0.1 fits a.1, refl)

-- one more kind of a chain of tests
or_kind : (byte n : ℕ) (bytes : List ℕ) (here later : Result (KindData × List ℕ) ℕ) (x : KindData × List ℕ) → (here ≡ Ok x → IsBody n bytes x) → ((byte ≡ n → ⊥) → later ≡ Ok x → IsBody byte bytes x)
    → cond (eqb byte n) here later ≡ Ok x → IsBody byte bytes x
or_kind byte n bytes here later x first more e = at (eqb byte n) refl e
  where
    at : (b : Bool) → eqb byte n ≡ b → cond b here later ≡ Ok x → IsBody byte bytes x
    at true is e = subst (λ (k : ℕ). IsBody k bytes x) (sym (eqb-true byte n is)) (first e)
    at false is e = more (eqb-false byte n is) e

body_takes : (byte : ℕ) (bytes : List ℕ) (x : KindData × List ℕ) → IsBytes bytes → 0 < byte → byte ≤ 8 → body_at byte bytes ≡ Ok x → IsBody byte bytes x
unfolding body_at
body_takes byte bytes x fits some few e =
    let nothing : Takes bytes [] bytes = record { parts = refl; rest_fits = fits } in
    or_kind byte 1 bytes (create_at bytes) _ x (create_takes bytes x fits)
    (λ n1. or_kind byte 2 bytes (Ok (drop_index, bytes)) _ x (λ h. is_body 2 bytes (drop_index, bytes) x h (nothing, refl))
    (λ n2. or_kind byte 3 bytes (stored_with replace bytes) _ x (replace_takes bytes x fits)
    (λ n3. or_kind byte 4 bytes (stored_with update bytes) _ x (update_takes bytes x fits)
    (λ n4. or_kind byte 5 bytes (remove_at bytes) _ x (remove_takes bytes x fits)
    (λ n5. or_kind byte 6 bytes (Ok (clear, bytes)) _ x (λ h. is_body 6 bytes (clear, bytes) x h (nothing, refl))
    (λ n6. or_kind byte 7 bytes (patch_at bytes) (Ok (reset, bytes)) x (patch_takes bytes x fits)
    (λ n7 h. let last : 8 ≡ byte = omega arith in subst (λ (k : ℕ). IsBody k bytes x) last (is_body 8 bytes (reset, bytes) x h (nothing, refl))))))))) e

pub kind_takes : (bytes : List ℕ) (x : ℕ × List ℕ) → IsBytes bytes → kind_at bytes ≡ Ok x → Takes bytes (x.0 ∷ []) x.1 × ((0 < x.0) × (x.0 ≤ 8))
unfolding kind_at
kind_takes [] x fits e = absurd cc
kind_takes (byte ∷ bytes) x fits e =
    let g = guard_ok (eqb byte 0 || ltb 8 byte) (length (byte ∷ bytes)) (byte, bytes) x e in
    let parts = or_parts (eqb byte 0) (ltb 8 byte) g.0 in
    subst (λ (y : ℕ × List ℕ). Takes (byte ∷ bytes) (y.0 ∷ []) y.1 × ((0 < y.0) × (y.0 ≤ 8))) g.1
    (record { parts = refl; rest_fits = IsBytes-rest byte bytes fits }, (omega (arith, eqb-false byte 0 parts.0), ltb-false 8 byte parts.1))

pub nil_from_length : (bytes : List ℕ) → length bytes ≡ 0 → bytes ≡ []
nil_from_length [] e = refl
nil_from_length (b ∷ bytes) e = absurd (omega arith)

whole_found : (bytes : List ℕ) (c : ChangeData) → IsBytes bytes → whole_change bytes ≡ Ok c → bytes ≡ change c
unfolding whole_change
whole_found bytes c fits e =
    let a = bind_ok (kind_at bytes) (λ byte. text_at byte.1 >>= λ uid. body_at byte.0 uid.1 >>= λ kind. cond (eqb (length kind.1) 0) (Ok (record { uid = uid.0; kind = kind.0 })) (Err (length kind.1))) c e in
    let b = bind_ok (text_at a.0.1) (λ uid. body_at a.0.0 uid.1 >>= λ kind. cond (eqb (length kind.1) 0) (Ok (record { uid = uid.0; kind = kind.0 })) (Err (length kind.1))) c a.2 in
    let d = bind_ok (body_at a.0.0 b.0.1) (λ kind. cond (eqb (length kind.1) 0) (Ok (record { uid = b.0.0; kind = kind.0 })) (Err (length kind.1))) c b.2 in
    let g = guard_ended (eqb (length d.0.1) 0) (length d.0.1) (record { uid = b.0.0; kind = d.0.0 }) c d.2 in
    let first = kind_takes bytes a.0 fits a.1 in
    let second = text_takes a.0.1 b.0.0 b.0.1 first.0.rest_fits b.1 in
    let third = body_takes a.0.0 b.0.1 d.0 second.rest_fits first.1.0 first.1.1 d.1 in
    let nothing : d.0.1 ≡ [] = nil_from_length d.0.1 (eqb-true _ _ g.0) in
    let behind = Takes-then a.0.1 (text b.0.0) b.0.1 (body d.0.0) d.0.1 second third.0 in
    let after : List ℕ = text b.0.0 ++ body d.0.0 in
    let ended : after ++ d.0.1 ≡ after = ap (λ (r : List ℕ). after ++ r) nothing ∙ append-nil after in
    let behind_is : a.0.1 ≡ after = behind.parts ∙ ended in
    let whole : bytes ≡ a.0.0 ∷ after = first.0.parts ∙ ap (λ (t : List ℕ). a.0.0 ∷ t) behind_is in
    subst (λ (y : ChangeData). bytes ≡ change y) g.1 (whole ∙ ap (λ (k : ℕ). k ∷ after) (sym third.1))

at_spot : (bytes : List ℕ) (r : Result ChangeData ℕ) (c : ChangeData) → or_spot bytes r ≡ Ok c → r ≡ Ok c
at_spot bytes (Ok x) c e = cc
at_spot bytes (Err left) c e = absurd cc

-- what is read as a change is its spelling
change_found : (bytes : List ℕ) (c : ChangeData) → IsBytes bytes → change_at bytes ≡ Ok c → bytes ≡ change c
change_found bytes c fits e = whole_found bytes c fits (at_spot bytes (whole_change bytes) c e)

pub is_found : (bytes : List ℕ) (r : Result Change ImageFault) → IsBytes bytes → Decodes change_view r (change_at bytes) → IfOk r (λ c. bytes ≡ change (change_view c))
is_found bytes (Ok c) fits given = change_found bytes (change_view c) fits given
is_found bytes (Err fault) fits given = tt
