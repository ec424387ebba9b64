-- What is written is read again.
use Rattle.std.proofs.Common.{◌≡◌, ℕ, zero, suc, ◌+◌, ◌<◌, ◌≤◌, List, [], ◌∷◌, ◌++◌, append_assoc, append-nil, length, get_or, take, map, false, true, Some, refl, sym, ap, subst, ◌∙◌, arith}
use Rattle.std.proofs.lemmas.List.Concat.{flat_map-cons}
use Rattle.std.proofs.lemmas.Str.{is_utf8-from_IsUtf8}
use Rattle.std.specs.List.{flat_map, AllByRecursion}
use Rattle.std.specs.Prelude.{option_and_then}
use Rattle.std.specs.Str.{IsUtf8, is_utf8}
use Rattle.serde_json.specs.Data.{Data, string, depth, items_depth}
use Rattle.serde_json.specs.Read.{read, max_depth}
use Rattle.serde_json.specs.View.{items_of}
use Rattle.serde_json.specs.Written.{has_float, compact_text}
use Rattle.doc_values.specs.Stored.{document_at}
use Rattle.change_payloads.specs.Fields.{json_of, with_text, item_texts, texts_of, ids_of}
use Rattle.change_payloads.specs.Spelling.{texts_data}
use Rattle.change_payloads.proofs.Texts.{json_own}

pub json_back : (d : Data) (bytes : List ℕ) → IsUtf8 bytes → read bytes ≡ Some d → has_float d ≡ false → bytes ≡ compact_text d → json_of (compact_text d) ≡ Some d
json_back d bytes utf8 reads whole own = subst (λ (b : List ℕ). json_of b ≡ Some d) own (json_own d bytes utf8 reads whole (sym own))

texts_back : (texts : List (List ℕ)) → item_texts (items_of (map string texts)) ≡ Some texts
texts_back [] = refl
texts_back (text ∷ texts) = ap (with_text (Some text)) (texts_back texts)

pub ids_back : (texts : List (List ℕ)) → json_of (compact_text (texts_data texts)) ≡ Some (texts_data texts) → ids_of (compact_text (texts_data texts)) ≡ Some texts
ids_back texts back = ap (option_and_then texts_of) back ∙ texts_back texts

depth-texts : (texts : List (List ℕ)) → items_depth (items_of (map string texts)) ≡ 0
depth-texts [] = refl
depth-texts (text ∷ texts) = rw (depth-texts texts)

pub shallow-texts : (texts : List (List ℕ)) → depth (texts_data texts) ≤ max_depth
shallow-texts texts = omega (arith, depth-texts texts)

-- one more of those that have P
pub all_more : {A : Type 0} (P : A → Type 0) (xs : List A) (i : ℕ) (x : A) → i < length xs → x ≡ get_or xs i x → AllByRecursion P (take i xs) → P x → AllByRecursion P (take (i + 1) xs)
all_more P [] i x lt is all here = absurd (omega arith)
all_more P (y ∷ xs) zero x lt is all here = (subst P is here, tt)
all_more P (y ∷ xs) (suc i) x lt is all here =
    let n : suc i + 1 ≡ suc (i + 1) = omega arith in
    rw n (all.0, all_more P xs i x (omega arith) is all.1 here)

pub utf8_test : (bytes : List ℕ) → IsUtf8 bytes → is_utf8 bytes ≡ true
utf8_test bytes utf8 = is_utf8-from_IsUtf8 bytes utf8

pub document_back : (text : List ℕ) (d : Data) → document_at text ≡ Some d → text ≡ compact_text d → document_at (compact_text d) ≡ Some d
document_back text d back own = subst (λ (t : List ℕ). document_at t ≡ Some d) own back

flat_take : {A : Type 0} (f : A → List ℕ) (xs : List A) (i : ℕ) (x : A) → i < length xs → x ≡ get_or xs i x → flat_map f (take (i + 1) xs) ≡ flat_map f (take i xs) ++ f x
flat_take f [] i x lt is = absurd (omega arith)
flat_take f (y ∷ xs) zero x lt is = flat_map-cons f y [] ∙ append-nil (f y) ∙ ap f (sym is)
flat_take f (y ∷ xs) (suc i) x lt is =
    let n : suc i + 1 ≡ suc (i + 1) = omega arith in
    rw (n, flat_map-cons f y (take (i + 1) xs), flat_map-cons f y (take i xs)) (ap (λ (t : List ℕ). f y ++ t) (flat_take f xs i x (omega arith) is) ∙ sym (append_assoc (f y) (flat_map f (take i xs)) (f x)))

-- one more of those that are written
pub flat_more : {A : Type 0} (f : A → List ℕ) (xs : List A) (i : ℕ) (x : A) (start now next : List ℕ) → i < length xs → x ≡ get_or xs i x → now ≡ start ++ flat_map f (take i xs) → next ≡ now ++ f x
    → next ≡ start ++ flat_map f (take (i + 1) xs)
flat_more f xs i x start now next lt is so_far more =
    more ∙ ap (λ (t : List ℕ). t ++ f x) so_far ∙ append_assoc start (flat_map f (take i xs)) (f x) ∙ ap (λ (t : List ℕ). start ++ t) (sym (flat_take f xs i x lt is))
