-- A turn of the loops over items and members: what is read is what comes next, before what is read behind it.
use Rattle.std.proofs.Common.{◌≡◌, ℕ, zero, suc, ◌-◌, ◌<◌, List, [], ◌∷◌, ◌++◌, length, Option, Some, None, refl, ap, ◌∙◌, arith}
use Rattle.json.specs.Token.{Token}
use Rattle.json.specs.Json.{parse_map, after_end_array, read_key, items_step, items, members, value}
use Rattle.json.proofs.Grammar.{left, value-begin_array, value-begin_object, value_is, items_end, items_more, members_end, members_no_key, members_more, read_key-shorter, skip_value-shorter}
use Rattle.serde_json.specs.Data.{Data, array, object, Items, no_items, item, Members, put}
use Rattle.serde_json.specs.Read.{of_json, of_items, of_members, converted}
use Rattle.serde_json.specs.View.{view, items_view}
use Rattle.serde_json.specs.declared.value.Value.{Value}
use Rattle.document_stream.specs.Reads.{value_at, items_at, members_at}
use Rattle.document_stream.proofs.Enough.{items-enough, members-enough}
use Rattle.document_stream.proofs.Converted.{converted_some, converted-array, converted-object, with_item, no_item, with_member, no_member}

-- the members behind those that were put already
abbrev pub members_onto : ℕ → Members → List Token → Option (Members × List Token)
members_onto depth old ts = converted (λ ms. of_members ms old) (members (value depth) (length ts) ts)

pub value_at-begin_array : (depth : ℕ) (ts : List Token) → 0 < depth → value_at depth (Token.begin_array ∷ ts) ≡ parse_map array (items_at (depth - 1) ts)
value_at-begin_array depth ts h = ap (converted of_json) (value-begin_array depth ts h) ∙ converted-array (items (value (depth - 1)) (length ts) ts)

pub value_at-begin_object : (depth : ℕ) (ts : List Token) → 0 < depth → value_at depth (Token.begin_object ∷ ts) ≡ parse_map object (members_at (depth - 1) ts)
value_at-begin_object depth ts h = ap (converted of_json) (value-begin_object depth ts h) ∙ converted-object (members (value (depth - 1)) (length ts) ts)

pub value_at-flat_array : (depth : ℕ) (ts : List Token) → depth ≡ 0 → value_at depth (Token.begin_array ∷ ts) ≡ None
unfolding value
value_at-flat_array depth ts e = ap (λ n. value_at n (Token.begin_array ∷ ts)) e

pub value_at-flat_object : (depth : ℕ) (ts : List Token) → depth ≡ 0 → value_at depth (Token.begin_object ∷ ts) ≡ None
unfolding value
value_at-flat_object depth ts e = ap (λ n. value_at n (Token.begin_object ∷ ts)) e

module _ (depth : ℕ) where
  pub value_at-empty : value_at depth [] ≡ None
  value_at-empty = ap (converted of_json) (value_is depth [])

  pub items_over : (ts r : List Token) → after_end_array ts ≡ Some r → items_at depth ts ≡ Some (no_items, r)
  items_over ts r e = ap (converted of_items) (items_end (value depth) (length ts) ts r (omega arith) e)

  pub item_read : (ts r : List Token) (d : Data) → after_end_array ts ≡ None → value_at depth ts ≡ Some (d, r) → items_at depth ts ≡ parse_map (item d) (items_at depth r)
  item_read ts r d going e =
      let j = converted_some of_json (value depth ts) d r e in
      let less = skip_value-shorter depth ts r (ap left j.1) in
      ap (converted of_items) (items_more (value depth) (length ts) ts r j.0 (omega arith) going j.1) ∙ with_item j.0 d j.2 (items (value depth) (length ts - 1) r)
      ∙ ap (λ o. parse_map (item d) (converted of_items o)) (items-enough depth (length ts - 1) (length r) r (omega arith) (omega arith))

  pub item_refused : (ts : List Token) → after_end_array ts ≡ None → value_at depth ts ≡ None → items_at depth ts ≡ None
  unfolding items
  item_refused [] going e = refl
  item_refused (t ∷ ts) going e = ap (λ o. converted of_items (items_step (value depth) (items (value depth) (length ts)) (t ∷ ts) o)) going ∙ no_item (items (value depth) (length ts)) (value depth (t ∷ ts)) e

  module _ (old : Members) where
    pub members_over : (ts r : List Token) → read_key ts ≡ Some (None, r) → members_onto depth old ts ≡ Some (old, r)
    members_over ts r e = ap (converted (λ ms. of_members ms old)) (members_end (value depth) (length ts) ts r (omega arith) e)

    pub key_refused : (ts : List Token) → read_key ts ≡ None → members_onto depth old ts ≡ None
    key_refused ts e = ap (converted (λ ms. of_members ms old)) (members_no_key (value depth) (length ts) ts e)

    pub member_read : (k : List ℕ) (ts s r : List Token) (d : Data) → read_key ts ≡ Some (Some k, s) → value_at depth s ≡ Some (d, r) → members_onto depth old ts ≡ members_onto depth (put k d old) r
    member_read k ts s r d key e =
        let j = converted_some of_json (value depth s) d r e in
        let fewer = read_key-shorter ts (Some k) s key in
        let less = skip_value-shorter depth s r (ap left j.1) in
        ap (converted (λ ms. of_members ms old)) (members_more (value depth) (length ts) k ts s r j.0 (omega arith) key j.1) ∙ with_member k j.0 d old j.2 (members (value depth) (length ts - 1) r)
        ∙ ap (converted (λ ms. of_members ms (put k d old))) (members-enough depth (length ts - 1) (length r) r (omega arith) (omega arith))

    member_refused_by : (n : ℕ) (k : List ℕ) (ts s : List Token) → read_key ts ≡ Some (Some k, s) → value_at depth s ≡ None → converted (λ ms. of_members ms old) (members (value depth) n ts) ≡ None
    unfolding members
    member_refused_by zero k ts s key e = refl
    member_refused_by (suc n) k ts s key e = rw key (no_member k old (members (value depth) n) (value depth s) e)

    pub member_refused : (k : List ℕ) (ts s : List Token) → read_key ts ≡ Some (Some k, s) → value_at depth s ≡ None → members_onto depth old ts ≡ None
    member_refused k ts s key e = member_refused_by (length ts) k ts s key e

-- ---- a list that grows at its end

abbrev pub items_before : List Value → Items → Items
items_before [] rest = rest
items_before (v ∷ vs) rest = item (view v) (items_before vs rest)

pub items_before-no_items : (vs : List Value) → items_before vs no_items ≡ items_view vs
items_before-no_items [] = refl
items_before-no_items (v ∷ vs) = ap (item (view v)) (items_before-no_items vs)

items_push : (vs : List Value) (v : Value) (rest : Items) → items_before vs (item (view v) rest) ≡ items_before (vs ++ v ∷ []) rest
items_push [] v rest = refl
items_push (w ∷ vs) v rest = ap (item (view w)) (items_push vs v rest)

pub one_more_item : (vs : List Value) (v : Value) (o : Option (Items × List Token)) → parse_map (items_before vs) (parse_map (item (view v)) o) ≡ parse_map (items_before (vs ++ v ∷ [])) o
one_more_item vs v None = refl
one_more_item vs v (Some p) = ap (λ ds. Some (ds, p.1)) (items_push vs v p.0)
