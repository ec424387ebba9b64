-- When bytes are a JSON text.
use Rattle.std.proofs.Common.{◌≡◌, ℕ, List, true, false, Some, None, cond, refl, ap, Ok, Err}
use Rattle.std.proofs.lemmas.Str.{IsUtf8-from_is_utf8, is_utf8-from_IsUtf8}
use Rattle.std.specs.Str.{IsUtf8, is_utf8}
use Rattle.serde_json.specs.Data.{Data}
use Rattle.serde_json.specs.Read.{read}
use Rattle.request_refusals.specs.declared.refusal.Refusal.TheVariants.{NotJson}
use Rattle.search_base.specs.Trying.{or_refuse}
use Rattle.document_stream.specs.Bodies.{json_of}
use Rattle.search_bodies.specs.Json.{json_in}

pub json_read : (body : List ℕ) (d : Data) → IsUtf8 body → read body ≡ Some d → json_in body ≡ Ok d
json_read body d utf8 is = rw (is_utf8-from_IsUtf8 body utf8, is) refl

none_read : (body : List ℕ) → (IsUtf8 body → read body ≡ None) → json_of body ≡ None
none_read body none =
    elim (is_utf8 body) as (λ b. is_utf8 body ≡ b → cond b (read body) None ≡ None) [
      | true ↦ λ e. none (IsUtf8-from_is_utf8 body e)
      | false ↦ λ e. refl
    ] refl

pub json_refused : (body : List ℕ) → (IsUtf8 body → read body ≡ None) → json_in body ≡ Err NotJson
json_refused body none = ap (or_refuse NotJson) (none_read body none)
