-- The value that a body is.
use Rattle.std.proofs.Common.{◌≡◌, ℕ, List, true, false, Some, None, cond, unwrap_or, refl, ap}
use Rattle.std.proofs.lemmas.Str.{IsUtf8-from_is_utf8, is_utf8-from_IsUtf8}
use Rattle.std.specs.Str.{IsUtf8, is_utf8}
use Rattle.serde_json.specs.Data.{Data, null}
use Rattle.serde_json.specs.Read.{read}
use Rattle.demo_input.specs.Summary.{value_in}

pub value_in-json : (body : List ℕ) (d : Data) → IsUtf8 body → read body ≡ Some d → value_in body ≡ d
unfolding value_in
value_in-json body d utf8 is = rw (is_utf8-from_IsUtf8 body utf8, is) refl

none_read : (body : List ℕ) → (IsUtf8 body → read body ≡ None) → cond (is_utf8 body) (read body) None ≡ None
none_read body none =
    elim (is_utf8 body) as (λ b. is_utf8 body ≡ b → cond b (read body) None ≡ None) [
      | true ↦ λ e. none (IsUtf8-from_is_utf8 body e)
      | false ↦ λ e. refl
    ] refl

pub value_in-no_json : (body : List ℕ) → (IsUtf8 body → read body ≡ None) → value_in body ≡ null
unfolding value_in
value_in-no_json body none = ap (λ o. unwrap_or o null) (none_read body none)
