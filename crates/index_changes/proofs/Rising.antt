-- Documents over others: what is read from a text has its names in order, so that each stands once and keeps its value.
use Rattle.std.proofs.Common.{◌≡◌, ℕ, List, Bool, true, false, cond, Option, None, Some, option_map, option_and_then, Result, Ok, Ordering, Less, Equal, Greater, nat_cmp, refl, sym, ap, subst, ◌∙◌, bytes_eq}
use Rattle.std.proofs.lemmas.Cmp.{nat_list_cmp_total, tied_itself}
use Rattle.std.proofs.lemmas.Slice.Eq.{bytes_eq-Decides}
use Rattle.std.proofs.lemmas.Map.Text.{is_eq-slice_cmp}
use Rattle.std.specs.Cmp.Lexicographic.{slice_cmp}
use Rattle.std.specs.Ordering.{match_ordering, ordering_reverse, is_eq}
use Rattle.std.specs.Result.{result_ok}
use Rattle.std.specs.Str.{is_utf8}
use Rattle.json.specs.Json as json
use Rattle.json.specs.Lex.{tokens}
use Rattle.serde_json.specs.Data.{Num, Data, null, boolean, number, string, array, object, Items, Members, no_members, member, put}
use Rattle.serde_json.specs.Find.{get, get_member}
use Rattle.serde_json.specs.Read.{max_depth, number_of, of_json, of_items, of_members, read}
use Rattle.serde_json.specs.Written.{compact_text}
use Rattle.serde_json.proofs.Views.{get_member-put, get_member-put_other}
use Rattle.search_base.specs.Trying.{◌>>◌, ◌>>=◌, or_refuse}
use Rattle.doc_values.specs.declared.document.DocumentRefusal.{DocumentRefusal}
use Rattle.doc_values.specs.declared.ids.IdRefusal.{IdRefusal}
use Rattle.doc_values.specs.declared.ids.IdRefusal.TheVariants.{MissingId, BadId}
use Rattle.doc_values.specs.Ids.{id_in, external_id_of}
use Rattle.doc_values.specs.Stored.{document_at, at_value, if_text, put_all, merge}
use Rattle.doc_values.specs.Walk.{document_of, members_in, walk_of_members, first_broken}
use Rattle.index_changes.specs.Plans.{over}

abbrev pub order : List ℕ → List ℕ → Ordering
order k l = slice_cmp nat_cmp k l

-- the name is below all these
abbrev pub IsBelow : List ℕ → Members → Type 0
IsBelow k no_members = Unit {0}
IsBelow k (member l e ms) = (order k l ≡ Less) × IsBelow k ms

abbrev pub Rise : Members → Type 0
Rise no_members = Unit {0}
Rise (member l e ms) = IsBelow l ms × Rise ms

pub below-lower : (k l : List ℕ) (ms : Members) → order k l ≡ Less → IsBelow l ms → IsBelow k ms
below-lower k l no_members less h = tt
below-lower k l (member m e ms) less h = (nat_list_cmp_total.trans k l m less h.0, below-lower k l ms less h.1)

pub turned : (k l : List ℕ) → order k l ≡ Greater → order l k ≡ Less
turned k l e = nat_list_cmp_total.antisymm l k ∙ ap ordering_reverse e

-- ---- what is put in its place

below-put : (j k : List ℕ) (d : Data) (ms : Members) → order j k ≡ Less → IsBelow j ms → IsBelow j (put k d ms)
below-put j k d no_members less h = (less, tt)
below-put j k d (member l e ms) less h = by (order k l) (below-put j k d ms less h.1)
  where
    by : (o : Ordering) → IsBelow j (put k d ms) → IsBelow j (match_ordering o (member k d (member l e ms)) (member l d ms) (member l e (put k d ms)))
    by Less later = (less, h)
    by Equal later = h
    by Greater later = (h.0, later)

pub rise-put : (k : List ℕ) (d : Data) (ms : Members) → Rise ms → Rise (put k d ms)
rise-put k d no_members h = (tt, tt)
rise-put k d (member l e ms) h = by (order k l) refl (rise-put k d ms h.1)
  where
    by : (o : Ordering) → order k l ≡ o → Rise (put k d ms) → Rise (match_ordering o (member k d (member l e ms)) (member l d ms) (member l e (put k d ms)))
    by Less is later = ((is, below-lower k l ms is h.0), h)
    by Equal is later = h
    by Greater is later = (below-put l k d ms (turned k l is) h.0, later)

put-each : (js : json.Members) (k : List ℕ) (found ms : Members) → Rise found
    → ((more : Members) → Rise more → of_members js more ≡ Some ms → Rise ms)
    → (o : Option Data) → option_and_then (λ e. of_members js (put k e found)) o ≡ Some ms → Rise ms
put-each js k found ms h again None is = absurd (cc)
put-each js k found ms h again (Some e) is = again (put k e found) (rise-put k e found h) is

members-rise : (js : json.Members) (found ms : Members) → Rise found → of_members js found ≡ Some ms → Rise ms
members-rise json.no_members found ms h is = let same : found ≡ ms = cc in subst Rise same h
members-rise (json.member k j js) found ms h is = put-each js k found ms h (λ more rise is. members-rise js more ms rise is) (of_json j) is

-- the names of an object rise; what is no object has none
abbrev pub NamesRise : Data → Type 0
NamesRise d = Rise (members_in d)

of-object : (o : Option Members) (d : Data) → ((ms : Members) → o ≡ Some ms → Rise ms) → option_map object o ≡ Some d → NamesRise d
of-object None d h is = absurd (cc)
of-object (Some ms) d h is = let same : object ms ≡ d = cc in subst NamesRise same (h ms refl)

of-number : (o : Option Num) (d : Data) → option_map number o ≡ Some d → NamesRise d
of-number None d is = absurd (cc)
of-number (Some n) d is = let same : number n ≡ d = cc in subst NamesRise same tt

of-array : (o : Option Items) (d : Data) → option_map array o ≡ Some d → NamesRise d
of-array None d is = absurd (cc)
of-array (Some ds) d is = let same : array ds ≡ d = cc in subst NamesRise same tt

json-rises : (j : json.Json) (d : Data) → of_json j ≡ Some d → NamesRise d
json-rises json.null d is = let same : null ≡ d = cc in subst NamesRise same tt
json-rises (json.boolean b) d is = let same : boolean b ≡ d = cc in subst NamesRise same tt
json-rises (json.number s) d is = of-number (number_of s) d is
json-rises (json.string s) d is = let same : string s ≡ d = cc in subst NamesRise same tt
json-rises (json.array js) d is = of-array (of_items js) d is
json-rises (json.object js) d is = of-object (of_members js no_members) d (λ ms e. members-rise js no_members ms tt e) is

read-rises : (o : Option json.Json) (d : Data) → option_and_then of_json o ≡ Some d → NamesRise d
read-rises None d is = absurd (cc)
read-rises (Some j) d is = json-rises j d is

if_text-is : (b : Bool) (v d : Data) → cond b (Some v) None ≡ Some d → v ≡ d
if_text-is true v d is = cc
if_text-is false v d is = absurd (cc)

whole-is : (text : List ℕ) (ms : Members) (d : Data) (o : Option DocumentRefusal) → option_and_then (if_text text) (result_ok (o >> Ok (object ms))) ≡ Some d → object ms ≡ d
whole-is text ms d None is = if_text-is (bytes_eq (compact_text (object ms)) text) (object ms) d is
whole-is text ms d (Some refusal) is = absurd (cc)

value-is : (text : List ℕ) (v d : Data) → option_and_then (if_text text) (result_ok (document_of v)) ≡ Some d → v ≡ d
value-is text null d is = absurd (cc)
value-is text (boolean b) d is = absurd (cc)
value-is text (number n) d is = absurd (cc)
value-is text (string s) d is = absurd (cc)
value-is text (array ds) d is = absurd (cc)
value-is text (object ms) d is = whole-is text ms d (first_broken (walk_of_members None ms)) is

at_value-rises : (text : List ℕ) (o : Option Data) (d : Data) → ((v : Data) → o ≡ Some v → NamesRise v) → at_value text o ≡ Some d → NamesRise d
at_value-rises text None d h is = absurd (cc)
at_value-rises text (Some v) d h is = subst NamesRise (value-is text v d is) (h v refl)

text-rises : (text : List ℕ) (b : Bool) (d : Data) → cond b (at_value text (read text)) None ≡ Some d → NamesRise d
text-rises text true d is = at_value-rises text (read text) d (λ v e. read-rises (option_and_then (λ p. json.if_last p.0 p.1) (json.value max_depth (tokens text))) v e) is
text-rises text false d is = absurd (cc)

-- a document that is read back from its text
pub document-rises : (d : Data) → document_at (compact_text d) ≡ Some d → NamesRise d
document-rises d is = text-rises (compact_text d) (is_utf8 (compact_text d)) d is

-- ---- one over another

pub equal : (k l : List ℕ) → order k l ≡ Equal → k ≡ l
equal k l e = (bytes_eq-Decides k l).0 (sym (is_eq-slice_cmp k l) ∙ ap is_eq e)

apart : (k l : List ℕ) → order k l ≡ Less → k ≡ l → ⊥
apart k l less same = let tied : order k l ≡ Equal = ap (order k) (sym same) ∙ tied_itself nat_list_cmp_total k in cc

passed : (k : List ℕ) (ms found : Members) → IsBelow k ms → get_member k (put_all ms found) ≡ get_member k found
passed k no_members found h = refl
passed k (member l e ms) found h = passed k ms (put l e found) h.1 ∙ get_member-put_other k l e found (apart k l h.0)

keeps-value : (k : List ℕ) (d : Data) (ms found : Members) → Rise ms → get_member k ms ≡ Some d → get_member k (put_all ms found) ≡ Some d
keeps-value k d no_members found h is = absurd (cc)
keeps-value k d (member l e ms) found h is = by (order k l) refl (keeps-value k d ms (put l e found) h.1)
  where
    at : (o : Ordering) → order k l ≡ o → match_ordering o (get_member k ms) (Some e) (get_member k ms) ≡ Some d
    at o w = ap (λ v. match_ordering v (get_member k ms) (Some e) (get_member k ms)) (sym w) ∙ is

    by : (o : Ordering) → order k l ≡ o → (get_member k ms ≡ Some d → get_member k (put_all ms (put l e found)) ≡ Some d) → get_member k (put_all ms (put l e found)) ≡ Some d
    by Less w again = again (at Less w)
    by Greater w again = again (at Greater w)
    by Equal w again =
        let same = equal k l w in
        passed k ms (put l e found) (subst (λ v. IsBelow v ms) (sym same) h.0) ∙ ap (λ v. get_member v (put l e found)) same ∙ get_member-put l e found ∙ at Equal w

get-members : (k : List ℕ) (d : Data) → get k d ≡ get_member k (members_in d)
get-members k null = refl
get-members k (boolean b) = refl
get-members k (number n) = refl
get-members k (string s) = refl
get-members k (array ds) = refl
get-members k (object ms) = refl

abbrev id_from : Option Data → Result (List ℕ) IdRefusal
id_from o = or_refuse MissingId o >>= (λ value. or_refuse BadId (id_in value))

-- an update keeps the external id
pub id-over : (key external : List ℕ) (o : Option Data) (new : Data) → document_at (compact_text new) ≡ Some new → external_id_of key new ≡ Ok external → external_id_of key (over o new) ≡ Ok external
id-over key external None new back h = h
id-over key external (Some old) new back h = by (get key new) refl
  where
    by : (o : Option Data) → get key new ≡ o → id_from (get key (merge old new)) ≡ Ok external
    by None is = absurd (let bad : id_from None ≡ Ok external = ap id_from (sym is) ∙ h in cc)
    by (Some d) is = ap id_from (keeps-value key d (members_in new) (members_in old) (document-rises new back) (sym (get-members key new) ∙ is) ∙ sym is) ∙ h
