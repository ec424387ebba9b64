-- What was read, as data.
use Rattle.std.proofs.Common.{◌≡◌, ℕ, List, Option, Some, None, option_map, option_and_then, refl, ap}
use Rattle.json.specs.Token.{Token}
use Rattle.json.specs.Json as json
use Rattle.json.specs.Json.{Parse, parse_map}
use Rattle.serde_json.specs.Data.{Data, array, object, item, Members, no_members, put}
use Rattle.serde_json.specs.Read.{of_json, of_items, of_members, converted}

abbrev pick : {A : Type 0} → A → Option A → A
pick d None = d
pick d (Some a) = a

both : {B : Type 0} (r s : List Token) (x : Option B) (b : B) → option_map {U = B × List Token} (λ y. (y, r)) x ≡ Some (b, s) → (r ≡ s) × (x ≡ Some b)
both r s None b e = absurd (cc)
both r s (Some y) b e = let same = ap (pick (y, r)) e in (ap (λ p. p.1) same, ap (λ p. Some p.0) same)

pub converted_some : {A B : Type 0} (f : A → Option B) (o : Option (A × List Token)) (b : B) (r : List Token) → converted f o ≡ Some (b, r) → (a : A) × (o ≡ Some (a, r)) × (f a ≡ Some b)
converted_some f None b r e = absurd (cc)
converted_some f (Some p) b r e = let parts = both p.1 r (f p.0) b e in (p.0, ap (λ s. Some (p.0, s)) parts.0, parts.1)

refused : {B : Type 0} (r : List Token) (x : Option B) → option_map {U = B × List Token} (λ y. (y, r)) x ≡ None → x ≡ None
refused r None e = refl
refused r (Some y) e = absurd (cc)

twice : {A B : Type 0} (g : A → B) (r : List Token) (x : Option A) → option_map (λ b. (b, r)) (option_map g x) ≡ parse_map g (option_map (λ a. (a, r)) x)
twice g r None = refl
twice g r (Some a) = refl

pub converted-array : (o : Option (json.Items × List Token)) → converted of_json (parse_map json.array o) ≡ parse_map array (converted of_items o)
converted-array None = refl
converted-array (Some p) = twice array p.1 (of_items p.0)

pub converted-object : (o : Option (json.Members × List Token)) → converted of_json (parse_map json.object o) ≡ parse_map object (converted (λ ms. of_members ms no_members) o)
converted-object None = refl
converted-object (Some p) = twice object p.1 (of_members p.0 no_members)

pub with_item : (j : json.Json) (d : Data) → of_json j ≡ Some d → (o : Option (json.Items × List Token)) → converted of_items (parse_map (json.item j) o) ≡ parse_map (item d) (converted of_items o)
with_item j d e None = refl
with_item j d e (Some p) = rw e (twice (item d) p.1 (of_items p.0))

without_item : (j : json.Json) → of_json j ≡ None → (o : Option (json.Items × List Token)) → converted of_items (parse_map (json.item j) o) ≡ None
without_item j e None = refl
without_item j e (Some p) = rw e

pub no_item : (more : Parse json.Items) (o : Option (json.Json × List Token)) → converted of_json o ≡ None → converted of_items (option_and_then (λ q. parse_map (json.item q.0) (more q.1)) o) ≡ None
no_item more None e = refl
no_item more (Some q) e = without_item q.0 (refused q.1 (of_json q.0) e) (more q.1)

pub with_member : (k : List ℕ) (j : json.Json) (d : Data) (old : Members) → of_json j ≡ Some d → (o : Option (json.Members × List Token))
    → converted (λ ms. of_members ms old) (parse_map (json.member k j) o) ≡ converted (λ ms. of_members ms (put k d old)) o
with_member k j d old e None = refl
with_member k j d old e (Some p) = rw e

without_member : (k : List ℕ) (j : json.Json) (old : Members) → of_json j ≡ None → (o : Option (json.Members × List Token)) → converted (λ ms. of_members ms old) (parse_map (json.member k j) o) ≡ None
without_member k j old e None = refl
without_member k j old e (Some p) = rw e

pub no_member : (k : List ℕ) (old : Members) (more : Parse json.Members) (o : Option (json.Json × List Token)) → converted of_json o ≡ None
    → converted (λ ms. of_members ms old) (option_and_then (λ q. parse_map (json.member k q.0) (more q.1)) o) ≡ None
no_member k old more None e = refl
no_member k old more (Some q) e = without_member k q.0 old (refused q.1 (of_json q.0) e) (more q.1)
