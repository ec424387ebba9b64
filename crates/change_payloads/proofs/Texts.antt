-- Bytes that are texts, and texts of JSON values.
use Rattle.std.proofs.Common.{◌≡◌, ℕ, List, [], ◌∷◌, map, true, false, Some, None, cond, refl, sym, ap}
use Rattle.std.proofs.lemmas.Bool.{false_from_ne_true}
use Rattle.std.proofs.lemmas.Slice.Eq.{bytes_eq-Decides}
use Rattle.std.proofs.lemmas.Str.{IsUtf8-from_is_utf8, is_utf8-from_IsUtf8}
use Rattle.std.specs.Prelude.{option_and_then}
use Rattle.std.specs.Str.{IsUtf8, is_utf8}
use Rattle.serde_json.specs.Data.{Data, string}
use Rattle.serde_json.specs.Read.{read}
use Rattle.serde_json.specs.View.{items_of}
use Rattle.serde_json.specs.Written.{has_float, items_have_float, compact_text}
use Rattle.change_payloads.specs.Fields.{utf8_of, if_own, json_of}

pub utf8_some : (bytes : List ℕ) → IsUtf8 bytes → utf8_of bytes ≡ Some bytes
utf8_some bytes utf8 = rw (is_utf8-from_IsUtf8 bytes utf8)

pub utf8_none : (bytes : List ℕ) → (IsUtf8 bytes → ⊥) → utf8_of bytes ≡ None
utf8_none bytes other = rw (false_from_ne_true (is_utf8 bytes) (λ e. other (IsUtf8-from_is_utf8 bytes e)))

pub json_none : (bytes : List ℕ) → (IsUtf8 bytes → read bytes ≡ None) → None ≡ json_of bytes
json_none bytes none =
    elim (is_utf8 bytes) as (λ b. is_utf8 bytes ≡ b → None ≡ cond b (option_and_then (if_own bytes) (read bytes)) None) [
      | true ↦ λ e. ap (option_and_then (if_own bytes)) (sym (none (IsUtf8-from_is_utf8 bytes e)))
      | false ↦ λ e. refl
    ] refl

pub json_own : (d : Data) (bytes : List ℕ) → IsUtf8 bytes → read bytes ≡ Some d → has_float d ≡ false → compact_text d ≡ bytes → json_of bytes ≡ Some d
json_own d bytes utf8 reads whole own = rw (is_utf8-from_IsUtf8 bytes utf8, reads, whole, (bytes_eq-Decides (compact_text d) bytes).1 own)

pub no_float-texts : (texts : List (List ℕ)) → items_have_float (items_of (map string texts)) ≡ false
no_float-texts [] = refl
no_float-texts (text ∷ texts) = no_float-texts texts
