-- The documents of a list, a member at a time.
use Rattle.std.proofs.Common.{◌≡◌, ◌≢◌, ℕ, ◌+◌, List, [], ◌∷◌, ◌++◌, Option, Some, None, Result, Ok, Err, refl, sym, ap, ◌∙◌, append_assoc, append-nil, arith}
use Rattle.json.specs.Token.{Token}
use Rattle.json.specs.Json.{parse_map}
use Rattle.serde_json.specs.Data.{Data, array, Items, no_items, item}
use Rattle.doc_values.specs.Walk.{document_of}
use Rattle.doc_values.specs.Bodies.{documents_in, placed}
use Rattle.doc_values.specs.declared.document.DocumentRefusal.{DocumentRefusal}
use Rattle.doc_values.specs.declared.bodies.BodyRefusal as values
use Rattle.search_base.specs.declared.fault.Fault.{Fault}
use Rattle.search_base.specs.declared.fault.Fault.TheVariants.{Refused, NoMemory}
use Rattle.search_base.specs.Gives.{Fails, Turns}
use Rattle.search_base.specs.Trying.{◌>>=◌, refused_as}
use Rattle.document_stream.specs.Bodies.{refusal_of}
use Rattle.document_stream.specs.Reads.{value_at, items_at, broken_behind, refusal_behind, documents_left}
use Rattle.document_stream.specs.declared.fault.BodyRefusal.{BodyRefusal}
use Rattle.document_stream.specs.declared.fault.BodyRefusal.TheVariants.{NotJson}
use Rattle.document_stream.proofs.Turns.{value_at-begin_array}

-- documents found before the rest
abbrev pub after_these : List Data → Result (List Data) values.BodyRefusal → Result (List Data) BodyRefusal
after_these found (Ok more) = Ok (found ++ more)
after_these found (Err why) = Err (refusal_of why)

-- documents found, and then those of the items that are left, from a place on
abbrev pub list_left : List Data → ℕ → Option (Items × List Token) → Result (List Data) BodyRefusal
list_left found place None = Err NotJson
list_left found place (Some (ds, [])) = after_these found (documents_in place ds)
list_left found place (Some (ds, t ∷ ts)) = Err NotJson

none_found : (r : Result (List Data) values.BodyRefusal) → refused_as refusal_of r ≡ after_these [] r
none_found (Ok more) = refl
none_found (Err why) = refl

pub documents_left-array : (o : Option (Items × List Token)) → documents_left (parse_map array o) ≡ list_left [] 1 o
documents_left-array None = refl
documents_left-array (Some (ds, [])) = none_found (documents_in 1 ds)
documents_left-array (Some (ds, t ∷ ts)) = refl

-- the first document of those that are left, and the others
abbrev with_first : ℕ → Result Data DocumentRefusal → Result (List Data) values.BodyRefusal → Result (List Data) values.BodyRefusal
with_first place r more = refused_as (placed place) r >>= (λ first. more >>= (λ rest. Ok (first ∷ rest)))

-- what a document is refused for in a list
abbrev refused_in : ℕ → Result Data DocumentRefusal → Result Data BodyRefusal
refused_in place r = refused_as (λ why. refusal_of (placed place why)) r

found_first : (place : ℕ) (found : List Data) (x : Data) (more : Result (List Data) values.BodyRefusal) → after_these found (with_first place (Ok x) more) ≡ after_these (found ++ x ∷ []) more
found_first place found x (Ok more) = ap Ok (sym (append_assoc found (x ∷ []) more))
found_first place found x (Err why) = refl

found_at : (place : ℕ) (found : List Data) (x : Data) (r : Result Data DocumentRefusal) (more : Result (List Data) values.BodyRefusal) → refused_in place r ≡ Ok x → after_these found (with_first place r more) ≡ after_these (found ++ x ∷ []) more
found_at place found x (Ok y) more e = let same : y ≡ x = cc in rw same (found_first place found x more)
found_at place found x (Err why) more e = absurd (cc)

pub document_found : (found : List Data) (place : ℕ) (d x : Data) (o : Option (Items × List Token)) → refused_in place (document_of d) ≡ Ok x
    → list_left found place (parse_map (item d) o) ≡ list_left (found ++ x ∷ []) (place + 1) o
document_found found place d x None e = refl
document_found found place d x (Some (ds, [])) e = found_at place found x (document_of d) (documents_in (place + 1) ds) e
document_found found place d x (Some (ds, t ∷ ts)) e = refl

refused_at : (place : ℕ) (found : List Data) (r : Result Data DocumentRefusal) (more : Result (List Data) values.BodyRefusal) (why : BodyRefusal) → refused_in place r ≡ Err why → after_these found (with_first place r more) ≡ Err why
refused_at place found (Ok y) more why e = absurd (cc)
refused_at place found (Err refusal) more why e = let same : refusal_of (placed place refusal) ≡ why = cc in ap Err same

refused_behind : (found : List Data) (place : ℕ) (d : Data) (why : BodyRefusal) (o : Option (Items × List Token)) → refused_in place (document_of d) ≡ Err why
    → list_left found place (parse_map (item d) o) ≡ Err (refusal_behind why o)
refused_behind found place d why None e = refl
refused_behind found place d why (Some (ds, [])) e = refused_at place found (document_of d) (documents_in (place + 1) ds) why e
refused_behind found place d why (Some (ds, t ∷ ts)) e = refl

-- why a document is none, or no JSON where the rest is broken
pub fault_found : (found : List Data) (place : ℕ) (d : Data) (why : BodyRefusal) (fault : Fault BodyRefusal) (o : Option (Items × List Token)) → refused_in place (document_of d) ≡ Err why
    → Turns (refusal_behind why o) fault → Fails fault (list_left found place (parse_map (item d) o))
fault_found found place d why (Refused got) o e turns = refused_behind found place d why o e ∙ ap Err turns
fault_found found place d why NoMemory o e turns = tt

-- ---- the end of a list, whatever its items

pub broken_behind-item : (d : Data) (o : Option (Items × List Token)) → broken_behind (parse_map (item d) o) ≡ broken_behind o
broken_behind-item d None = refl
broken_behind-item d (Some (ds, [])) = refl
broken_behind-item d (Some (ds, t ∷ ts)) = refl

pub broken_behind-over : (ds : Items) (ts : List Token) → ts ≡ [] → broken_behind {A = Items} (Some (ds, ts)) ≡ None
broken_behind-over ds [] e = refl
broken_behind-over ds (t ∷ ts) e = absurd (cc)

pub broken_behind-more : (ds : Items) (ts : List Token) → ts ≢ [] → broken_behind {A = Items} (Some (ds, ts)) ≡ Some NotJson
broken_behind-more ds [] more = absurd (more refl)
broken_behind-more ds (t ∷ ts) more = refl

pub list_left-over : (found : List Data) (place : ℕ) (ts : List Token) → ts ≡ [] → list_left found place (Some (no_items, ts)) ≡ Ok found
list_left-over found place [] e = ap Ok (append-nil found)
list_left-over found place (t ∷ ts) e = absurd (cc)

pub list_left-more : (found : List Data) (place : ℕ) (ts : List Token) → ts ≢ [] → list_left found place (Some (no_items, ts)) ≡ Err NotJson
list_left-more found place [] more = absurd (more refl)
list_left-more found place (t ∷ ts) more = refl

-- the list behind its bracket
pub listed : (ts : List Token) → documents_left (value_at 127 (Token.begin_array ∷ ts)) ≡ list_left [] 1 (items_at 126 ts)
listed ts = ap documents_left (value_at-begin_array 127 ts (omega arith)) ∙ documents_left-array (items_at 126 ts)
