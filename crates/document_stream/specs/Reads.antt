-- What is read off the tokens that are left. Only the crate's private clauses cite it.
use Rattle.std.specs.Prelude.{◌≡◌, ℕ, List, [], ◌∷◌, length, Bool, true, false, Option, Some, None, Result, Ok, Err, if◌then◌else◌}
use Rattle.json.specs.Token.{Token}
use Rattle.json.specs.Json.{items, members, value}
use Rattle.serde_json.specs.Data.{Data, Items, Members, no_members}
use Rattle.serde_json.specs.Read.{of_json, of_items, of_members, converted}
use Rattle.search_base.specs.declared.fault.Fault.{Fault}
use Rattle.search_base.specs.declared.fault.Fault.TheVariants.{Refused, NoMemory}
use Rattle.document_stream.specs.Bodies.{documents_in_json}
use Rattle.document_stream.specs.declared.fault.BodyRefusal.{BodyRefusal}
use Rattle.document_stream.specs.declared.fault.BodyRefusal.TheVariants.{NotJson}

-- the value that comes next, nested no deeper than the number, and the tokens behind it
abbrev pub value_at : ℕ → List Token → Option (Data × List Token)
value_at depth ts = converted of_json (value depth ts)

-- the same of the items behind a bracket that opens a list, with its end
abbrev pub items_at : ℕ → List Token → Option (Items × List Token)
items_at depth ts = converted of_items (items (value depth) (length ts) ts)

-- the same of the members behind a brace that opens an object, with its end
abbrev pub members_at : ℕ → List Token → Option (Members × List Token)
members_at depth ts = converted (λ ms. of_members ms no_members) (members (value depth) (length ts) ts)

-- nothing is wanted, and it is no JSON; or memory ran out
abbrev pub IsBroken : {B : Type 0} → Fault BodyRefusal → Option B → Type 0
IsBroken (Refused why) wanted = (why ≡ NotJson) × (wanted ≡ None)
IsBroken NoMemory wanted = Unit {0}

-- the value and the tokens that are left, or no JSON
abbrev pub Reads :
    {A B : Type 0} → (A → B) → Result A (Fault BodyRefusal) → Option (B × List Token) → List Token → Type 0
Reads seen (Ok a) wanted left = wanted ≡ Some (seen a, left)
Reads seen (Err fault) wanted left = IsBroken fault wanted

-- what was read, where nothing follows it
abbrev pub whole : {A : Type 0} → Option (A × List Token) → Option A
whole None = None
whole (Some (a, [])) = Some a
whole (Some (a, t ∷ ts)) = None

abbrev pub is_whole : {A : Type 0} → Option (A × List Token) → Bool
is_whole None = false
is_whole (Some (a, [])) = true
is_whole (Some (a, t ∷ ts)) = false

-- no JSON, unless the rest of what is read is whole
abbrev pub broken_behind : {A : Type 0} → Option (A × List Token) → Option BodyRefusal
broken_behind rest = if is_whole rest then None else Some NotJson

-- why, where the rest of what is read is whole
abbrev pub refusal_behind : {A : Type 0} → BodyRefusal → Option (A × List Token) → BodyRefusal
refusal_behind why rest = if is_whole rest then why else NotJson

-- the documents of the value that was read
abbrev pub documents_left : Option (Data × List Token) → Result (List Data) BodyRefusal
documents_left read = documents_in_json (whole read)
