-- The documents of a body are those of its tokens.
use Rattle.std.proofs.Common.{◌≡◌, ℕ, List, [], ◌∷◌, Bool, true, false, Option, Some, None, Err, option_map, option_and_then, refl, sym, ap, ◌∙◌}
use Rattle.std.specs.Str.{is_utf8}
use Rattle.std.specs.Prelude.{IsUtf8}
use Rattle.std.proofs.lemmas.Str.{IsUtf8-from_is_utf8, is_utf8-from_IsUtf8}
use Rattle.json.specs.Token.{Token}
use Rattle.json.specs.Lex.{tokens}
use Rattle.json.specs.Json.{Json, if_last, value}
use Rattle.serde_json.specs.Data.{Data}
use Rattle.serde_json.specs.Read.{of_json, converted, read}
use Rattle.document_stream.specs.Bodies.{json_of, documents_in_json, documents_read}
use Rattle.document_stream.specs.Reads.{value_at, whole, documents_left}
use Rattle.document_stream.specs.declared.fault.BodyRefusal.TheVariants.{NotJson}

whole_alone : (x : Option Data) → whole (option_map (λ d. (d, [])) x) ≡ x
whole_alone None = refl
whole_alone (Some d) = refl

whole_and_more : (x : Option Data) (t : Token) (ts : List Token) → whole (option_map (λ d. (d, t ∷ ts)) x) ≡ None
whole_and_more None t ts = refl
whole_and_more (Some d) t ts = refl

whole-converted : (o : Option (Json × List Token)) → whole (converted of_json o) ≡ option_and_then of_json (option_and_then (λ p. if_last p.0 p.1) o)
whole-converted None = refl
whole-converted (Some (j, [])) = whole_alone (of_json j)
whole-converted (Some (j, t ∷ ts)) = whole_and_more (of_json j) t ts

no_text : (bytes : List ℕ) (b : Bool) → is_utf8 bytes ≡ b → (IsUtf8 bytes → ⊥) → b ≡ false
no_text bytes true e none = absurd (none (IsUtf8-from_is_utf8 bytes e))
no_text bytes false e none = refl

pub documents_read-text : (bytes : List ℕ) → IsUtf8 bytes → documents_left (value_at 127 (tokens bytes)) ≡ documents_read bytes
documents_read-text bytes utf8 =
    let text : json_of bytes ≡ read bytes = rw (is_utf8-from_IsUtf8 bytes utf8) in
    ap documents_in_json (whole-converted (value 127 (tokens bytes)) ∙ sym text)

pub documents_read-no_text : (bytes : List ℕ) → (IsUtf8 bytes → ⊥) → documents_read bytes ≡ Err NotJson
documents_read-no_text bytes none = let no : json_of bytes ≡ None = rw (no_text bytes (is_utf8 bytes) refl none) in ap documents_in_json no
