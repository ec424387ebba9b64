-- How the logic stores a JSON value, so that it may be what a contract sees of a document.
use Rattle.std.specs.Prelude.{◌≡◌, ◌⊎◌, ℕ, ℤ, List, Float, refl}
use Rattle.std.specs.Coded.{Coded, code_by, coded⊎, coded_ℕ, coded_ℤ, coded_bool, coded_list}
use Rattle.std.proofs.Common.{inl, inr, ap, ap₂}
use base.Stored.{Gv, gnil, gnum, gcons, coded_float}
use Rattle.serde_json.specs.Data.{Num, unsigned, negative, float, Data, null, boolean, number, string, array, object, Items, no_items, item, Members, no_members, member}

abbrev num_parts : Num → ℕ ⊎ (ℤ ⊎ Float)
num_parts (unsigned n) = inl n
num_parts (negative z) = inr (inl z)
num_parts (float x) = inr (inr x)

abbrev num_whole : ℕ ⊎ (ℤ ⊎ Float) → Num
num_whole (inl n) = unsigned n
num_whole (inr (inl z)) = negative z
num_whole (inr (inr x)) = float x

pub num_whole-num_parts : (n : Num) → num_whole (num_parts n) ≡ n
num_whole-num_parts (unsigned n) = refl
num_whole-num_parts (negative z) = refl
num_whole-num_parts (float x) = refl

abbrev pub num_code : Coded Num
num_code =
    code_by (ℕ ⊎ (ℤ ⊎ Float)) (coded⊎ coded_ℕ (coded⊎ coded_ℤ coded_float)) num_parts num_whole num_whole-num_parts

abbrev pub text_code : Coded (List ℕ)
text_code = coded_list coded_ℕ

abbrev left : Gv → Gv
left gnil = gnil
left (gnum n) = gnil
left (gcons a b) = a

abbrev right : Gv → Gv
right gnil = gnil
right (gnum n) = gnil
right (gcons a b) = b

abbrev mutual
  pub stored : Data → Gv
  stored null = gcons (gnum 0) gnil
  stored (boolean b) = gcons (gnum 1) (coded_bool.code b)
  stored (number n) = gcons (gnum 2) (num_code.code n)
  stored (string s) = gcons (gnum 3) (text_code.code s)
  stored (array ds) = gcons (gnum 4) (items_stored ds)
  stored (object ms) = gcons (gnum 5) (members_stored ms)

  pub items_stored : Items → Gv
  items_stored no_items = gnil
  items_stored (item d ds) = gcons (stored d) (items_stored ds)

  pub members_stored : Members → Gv
  members_stored no_members = gnil
  members_stored (member k d ms) = gcons (text_code.code k) (gcons (stored d) (members_stored ms))

mutual
  pub stored_apart : (x y : Data) → stored x ≡ stored y → x ≡ y
  stored_apart null null p = refl
  stored_apart null (boolean b) p = cc
  stored_apart null (number n) p = cc
  stored_apart null (string s) p = cc
  stored_apart null (array ds) p = cc
  stored_apart null (object ms) p = cc
  stored_apart (boolean a) null p = cc
  stored_apart (boolean a) (boolean b) p = ap boolean (coded_bool.inj a b (ap right p))
  stored_apart (boolean a) (number n) p = cc
  stored_apart (boolean a) (string s) p = cc
  stored_apart (boolean a) (array ds) p = cc
  stored_apart (boolean a) (object ms) p = cc
  stored_apart (number m) null p = cc
  stored_apart (number m) (boolean b) p = cc
  stored_apart (number m) (number n) p = ap number (num_code.inj m n (ap right p))
  stored_apart (number m) (string s) p = cc
  stored_apart (number m) (array ds) p = cc
  stored_apart (number m) (object ms) p = cc
  stored_apart (string s) null p = cc
  stored_apart (string s) (boolean b) p = cc
  stored_apart (string s) (number n) p = cc
  stored_apart (string s) (string t) p = ap string (text_code.inj s t (ap right p))
  stored_apart (string s) (array ds) p = cc
  stored_apart (string s) (object ms) p = cc
  stored_apart (array ds) null p = cc
  stored_apart (array ds) (boolean b) p = cc
  stored_apart (array ds) (number n) p = cc
  stored_apart (array ds) (string s) p = cc
  stored_apart (array ds) (array es) p = ap array (items_apart ds es (ap right p))
  stored_apart (array ds) (object ms) p = cc
  stored_apart (object ms) null p = cc
  stored_apart (object ms) (boolean b) p = cc
  stored_apart (object ms) (number n) p = cc
  stored_apart (object ms) (string s) p = cc
  stored_apart (object ms) (array ds) p = cc
  stored_apart (object ms) (object ns) p = ap object (members_apart ms ns (ap right p))

  items_apart : (x y : Items) → items_stored x ≡ items_stored y → x ≡ y
  items_apart no_items no_items p = refl
  items_apart no_items (item d ds) p = cc
  items_apart (item d ds) no_items p = cc
  items_apart (item d ds) (item e es) p = ap₂ item (stored_apart d e (ap left p)) (items_apart ds es (ap right p))

  members_apart : (x y : Members) → members_stored x ≡ members_stored y → x ≡ y
  members_apart no_members no_members p = refl
  members_apart no_members (member k d ms) p = cc
  members_apart (member k d ms) no_members p = cc
  members_apart (member k d ms) (member l e ns) p =
      let same_key = text_code.inj k l (ap left p) in
      let same_value = stored_apart d e (ap (λ g. left (right g)) p) in
      let same_rest = members_apart ms ns (ap (λ g. right (right g)) p) in
      cc

abbrev pub data_code : Coded Data
data_code = record { code = stored; inj = stored_apart }
