-- A patch without fault has no float.
use Rattle.std.proofs.Common.{◌≡◌, ℕ, ◌&&◌, ◌||◌, Bool, true, false, cond, List, ◌∷◌, ◌++◌, codes, Option, Some, None, refl, sym}
use Rattle.std.specs.Prelude.{is_some, nat_le}
use Rattle.std.specs.Str.{bytes_eq}
use Rattle.std.proofs.lemmas.Bool.{true≢false}
use Rattle.serde_json.specs.Data.{unsigned, negative, float, Data, null, boolean, number, string, array, object, Items, no_items, item, Members, no_members, member}
use Rattle.serde_json.specs.Find.{as_str}
use Rattle.serde_json.specs.Written.{has_float, items_have_float, members_have_float}
use Rattle.search_base.specs.Trying.{first_of}
use Rattle.index_settings.specs.declared.shape.Shape.{Shape}
use Rattle.index_settings.specs.declared.shape.Shape.TheVariants as shape
use Rattle.index_settings.specs.declared.fault.SettingsRefusal.TheVariants.{UnknownMember, WrongShape}
use Rattle.index_settings.specs.Table.{shape_of, wrong_unless, inner_fault, first_inner, nested_fault, shape_fault, fault_at, member_fault, first_fault, patch_fault}
use Rattle.index_settings.specs.Values.{is_null, is_number_up_to, items_are_texts, are_texts, are_texts_up_to, entries_in, texts_in, members_are_texts, are_synonyms}
use Rattle.index_settings.specs.Rules.{bad_rule}

kept : {R : Type 0} (b : Bool) (r : R) → cond b None (Some r) ≡ None → b ≡ true
kept true r h = refl
kept false r h = cc

both : (a b : Bool) → (a && b) ≡ true → (a ≡ true) × (b ≡ true)
both true b h = (refl, h)
both false b h = absurd (true≢false (sym h))

first_none : {R : Type 0} (a b : Option R) → first_of a b ≡ None → (a ≡ None) × (b ≡ None)
first_none None b h = (refl, h)
first_none (Some r) b h = cc

text_whole : (d : Data) → is_some (as_str d) ≡ true → has_float d ≡ false
text_whole null h = refl
text_whole (boolean b) h = refl
text_whole (number n) h = absurd (true≢false (sym h))
text_whole (string s) h = refl
text_whole (array ds) h = absurd (true≢false (sym h))
text_whole (object ms) h = absurd (true≢false (sym h))

items_whole : (ds : Items) → items_are_texts ds ≡ true → items_have_float ds ≡ false
items_whole no_items h = refl
items_whole (item d ds) h = let p = both (is_some (as_str d)) (items_are_texts ds) h in rw (text_whole d p.0) (items_whole ds p.1)

texts_whole : (d : Data) → are_texts d ≡ true → has_float d ≡ false
texts_whole null h = refl
texts_whole (boolean b) h = refl
texts_whole (number n) h = absurd (true≢false (sym h))
texts_whole (string s) h = refl
texts_whole (array ds) h = items_whole ds h
texts_whole (object ms) h = absurd (true≢false (sym h))

lists_whole : (ms : Members) → members_are_texts ms ≡ true → members_have_float ms ≡ false
lists_whole no_members h = refl
lists_whole (member key d ms) h = let p = both (are_texts d) (members_are_texts ms) h in rw (texts_whole d p.0) (lists_whole ms p.1)

synonyms_whole : (d : Data) → are_synonyms d ≡ true → has_float d ≡ false
synonyms_whole null h = refl
synonyms_whole (boolean b) h = refl
synonyms_whole (number n) h = absurd (true≢false (sym h))
synonyms_whole (string s) h = refl
synonyms_whole (array ds) h = absurd (true≢false (sym h))
synonyms_whole (object ms) h = lists_whole ms h

null_whole : (d : Data) → is_null d ≡ true → has_float d ≡ false
null_whole null h = refl
null_whole (boolean b) h = refl
null_whole (number n) h = absurd (true≢false (sym h))
null_whole (string s) h = refl
null_whole (array ds) h = absurd (true≢false (sym h))
null_whole (object ms) h = absurd (true≢false (sym h))

number_whole : (d : Data) → (is_null d || is_number_up_to 1000000 d) ≡ true → has_float d ≡ false
number_whole null h = refl
number_whole (boolean b) h = refl
number_whole (number (unsigned n)) h = refl
number_whole (number (negative z)) h = refl
number_whole (number (float x)) h = absurd (true≢false (sym h))
number_whole (string s) h = refl
number_whole (array ds) h = absurd (true≢false (sym h))
number_whole (object ms) h = absurd (true≢false (sym h))

inner_whole : (outer inner name : List ℕ) (d : Data) → inner_fault outer inner name d ≡ None → has_float d ≡ false
inner_whole outer inner name d = go (bytes_eq name inner)
  where
    go : (b : Bool) → cond b (wrong_unless (is_null d || is_number_up_to 1000000 d) (outer ++ 46 ∷ name)) (Some (UnknownMember (outer ++ 46 ∷ name))) ≡ None → has_float d ≡ false
    go true h = number_whole d (kept _ _ h)
    go false h = cc

inners_whole : (outer inner : List ℕ) (ms : Members) → first_inner outer inner ms ≡ None → members_have_float ms ≡ false
inners_whole outer inner no_members h = refl
inners_whole outer inner (member name d ms) h =
    let p = first_none (inner_fault outer inner name d) (first_inner outer inner ms) h in
    rw (inner_whole outer inner name d p.0) (inners_whole outer inner ms p.1)

nested_whole : (outer inner : List ℕ) (d : Data) → nested_fault outer inner d ≡ None → has_float d ≡ false
nested_whole outer inner null h = refl
nested_whole outer inner (boolean b) h = refl
nested_whole outer inner (number n) h = cc
nested_whole outer inner (string s) h = refl
nested_whole outer inner (array ds) h = cc
nested_whole outer inner (object ms) h = inners_whole outer inner ms h

up_to_whole : (most : ℕ) (d : Data) → are_texts_up_to most d ≡ true → has_float d ≡ false
up_to_whole most d h = texts_whole d (both (nat_le (entries_in d) most) (are_texts d) h).1

shape_whole : (s : Shape) (name : List ℕ) (d : Data) → shape_fault s name d ≡ None → has_float d ≡ false
shape_whole shape.Entries name d h = up_to_whole 65535 d (kept _ _ h)
shape_whole shape.Texts name d h = texts_whole d (kept _ _ h)
shape_whole shape.Rules name d h = go (are_texts_up_to 32 d) refl h
  where
    go : (b : Bool) → are_texts_up_to 32 d ≡ b → cond b (bad_rule (texts_in d)) (Some (WrongShape name)) ≡ None → has_float d ≡ false
    go true is h = up_to_whole 32 d is
    go false is h = cc
shape_whole shape.Synonyms name d h = synonyms_whole d (kept _ _ h)
shape_whole shape.Attribute name null h = refl
shape_whole shape.Attribute name (boolean b) h = refl
shape_whole shape.Attribute name (number n) h = cc
shape_whole shape.Attribute name (string s) h = refl
shape_whole shape.Attribute name (array ds) h = cc
shape_whole shape.Attribute name (object ms) h = cc
shape_whole shape.Faceting name d h = nested_whole name (codes "maxValuesPerFacet") d h
shape_whole shape.Pagination name d h = nested_whole name (codes "maxTotalHits") d h

member_whole : (o : Option Shape) (name : List ℕ) (d : Data) → fault_at o name d ≡ None → has_float d ≡ false
member_whole None name d h = cc
member_whole (Some s) name d h = go (is_null d) refl h
  where
    go : (b : Bool) → is_null d ≡ b → cond b None (shape_fault s name d) ≡ None → has_float d ≡ false
    go true is h = null_whole d is
    go false is h = shape_whole s name d h

members_whole : (ms : Members) → first_fault ms ≡ None → members_have_float ms ≡ false
members_whole no_members h = refl
members_whole (member name d ms) h =
    let p = first_none (member_fault name d) (first_fault ms) h in
    rw (member_whole (shape_of name) name d p.0) (members_whole ms p.1)

pub patch_whole : (d : Data) → patch_fault d ≡ None → has_float d ≡ false
patch_whole null h = refl
patch_whole (boolean b) h = refl
patch_whole (number n) h = cc
patch_whole (string s) h = refl
patch_whole (array ds) h = cc
patch_whole (object ms) h = members_whole ms h
