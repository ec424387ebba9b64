-- Documents as their bytes spell them.
use Rattle.std.proofs.Common.{◌≡◌, ℕ, List, true, false, Option, Some, None, cond, refl, sym, ap}
use Rattle.std.proofs.lemmas.Str.{IsUtf8-from_is_utf8, is_utf8-from_IsUtf8}
use Rattle.std.specs.Prelude.{option_and_then}
use Rattle.std.specs.Result.{result_ok}
use Rattle.std.specs.Str.{IsUtf8, is_utf8}
use Rattle.serde_json.specs.Data.{Data}
use Rattle.serde_json.specs.Read.{read}
use Rattle.doc_values.specs.Walk.{document_of}
use Rattle.index_image.specs.Image.{spelled}

abbrev document_in : Option Data → Option Data
document_in value = option_and_then (λ d. result_ok (document_of d)) value

pub spelled_none : (bytes : List ℕ) → (IsUtf8 bytes → read bytes ≡ None) → None ≡ spelled bytes
spelled_none bytes none =
    elim (is_utf8 bytes) as (λ b. is_utf8 bytes ≡ b → None ≡ document_in (cond b (read bytes) None)) [
      | true ↦ λ e. ap document_in (sym (none (IsUtf8-from_is_utf8 bytes e)))
      | false ↦ λ e. refl
    ] refl

pub spelled_read : (d : Data) (bytes : List ℕ) → IsUtf8 bytes → read bytes ≡ Some d → spelled bytes ≡ result_ok (document_of d)
spelled_read d bytes utf8 reads = rw (is_utf8-from_IsUtf8 bytes utf8, reads) refl
