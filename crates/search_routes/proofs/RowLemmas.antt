-- Rows of a list, passed over or taken one by one.
use Rattle.std.proofs.Common.{◌≡◌, ℕ, suc, ◌-◌, ◌<◌, List, [], ◌∷◌, ◌++◌, map, take, drop, false, Option, Some, None, refl, sym, ap, ◌∙◌, append_assoc, arith}
use Rattle.std.proofs.lemmas.Bool.{or_parts}
use Rattle.std.proofs.lemmas.List.{map-append}
use Rattle.serde_json.specs.Data.{Data}
use Rattle.serde_json.specs.View.{view, items_view}
use Rattle.serde_json.specs.Written.{has_float, items_have_float}
use Rattle.serde_json.specs.declared.value.Value.{Value}
use Rattle.request_replies.specs.Replies.{index_data}
use Rattle.search_routes.specs.Machine.{slice}

pub taken : (values : List Value) (value : Value) (skip room : ℕ) (x : Data) (rest : List Data) → view value ≡ x → skip ≡ 0 → 0 < room
    → map view (values ++ value ∷ []) ++ slice 0 (room - 1) rest ≡ map view values ++ slice skip room (x ∷ rest)
taken values value skip room x rest is none some =
    let e : room ≡ suc (room - 1) = omega arith in
    ap (λ v. v ++ slice 0 (room - 1) rest) (map-append view values (value ∷ []))
    ∙ append_assoc (map view values) (view value ∷ []) (slice 0 (room - 1) rest)
    ∙ ap (λ d. map view values ++ d ∷ slice 0 (room - 1) rest) is
    ∙ sym (ap (λ n. map view values ++ take n (x ∷ rest)) e)
    ∙ sym (ap (λ n. map view values ++ take room (drop n (x ∷ rest))) none)

pub items_have_float-push : (vs : List Value) (v : Value) → items_have_float (items_view vs) ≡ false → has_float (view v) ≡ false → items_have_float (items_view (vs ++ v ∷ [])) ≡ false
items_have_float-push [] v p q = rw q
items_have_float-push (x ∷ vs) v p q =
    let parts = or_parts (has_float (view x)) _ p in
    rw (parts.0, items_have_float-push vs v parts.1 q)

pub index_has_no_float : (uid : List ℕ) (key : Option (List ℕ)) → has_float (index_data uid key) ≡ false
index_has_no_float uid None = refl
index_has_no_float uid (Some key) = refl
