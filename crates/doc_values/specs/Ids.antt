-- The id of a document, and its primary key.
use Rattle.std.specs.Prelude.{ℕ, ◌-◌, List, [], ◌∷◌, length, drop, decimal, ◌&&◌, ◌||◌, ◌==◌, nat_lt, nat_le, Bool, if◌then◌else◌, codes, Option, Some, None, Result, Ok, Err}
use Rattle.std.specs.Char.{is_ascii_alphanumeric}
use Rattle.std.specs.Fmt.{signed_decimal}
use Rattle.std.specs.List.{list_all}
use Rattle.std.specs.Str.{str_eq_ignore_ascii_case}
use Rattle.serde_json.specs.Data.{Num, unsigned, negative, float, Data, null, boolean, number, string, array, object, Members, no_members, member}
use Rattle.serde_json.specs.Find.{get}
use Rattle.search_base.specs.Trying.{◌>>=◌, or_refuse}
use Rattle.doc_values.specs.declared.ids.IdRefusal.{IdRefusal}
use Rattle.doc_values.specs.declared.ids.IdRefusal.TheVariants.{MissingId, BadId}
use Rattle.doc_values.specs.declared.keys.KeyRefusal.{KeyRefusal}
use Rattle.doc_values.specs.declared.keys.KeyRefusal.TheVariants.{NoCandidate, SeveralCandidates}
use Rattle.doc_values.specs.Walk.{members_in}

abbrev pub is_id_byte : ℕ → Bool
is_id_byte byte = is_ascii_alphanumeric byte || byte == 45 || byte == 95

abbrev pub is_id : List ℕ → Bool
is_id text = nat_lt 0 (length text) && nat_le (length text) 511 && list_all is_id_byte text

abbrev pub number_id : Num → Option (List ℕ)
number_id (unsigned n) = Some (decimal n)
number_id (negative z) = Some (signed_decimal z)
number_id (float x) = None

-- the uid of an index
abbrev pub is_uid : List ℕ → Bool
is_uid text = nat_lt 0 (length text) && nat_le (length text) 400 && list_all is_id_byte text

-- the external id that a value gives
abbrev pub id_in : Data → Option (List ℕ)
id_in null = None
id_in (boolean b) = None
id_in (number n) = number_id n
id_in (string s) = if is_id s then Some s else None
id_in (array ds) = None
id_in (object ms) = None

-- the external id of a document under a key
abbrev pub external_id_of : List ℕ → Data → Result (List ℕ) IdRefusal
external_id_of key d = or_refuse MissingId (get key d) >>= (λ value. or_refuse BadId (id_in value))

-- ---- the key

abbrev pub ends_in_id : List ℕ → Bool
ends_in_id name = nat_le 2 (length name) && str_eq_ignore_ascii_case (drop (length name - 2) name) (codes "id")

abbrev pub candidates : Members → List (List ℕ)
candidates no_members = []
candidates (member name d ms) = if ends_in_id name then name ∷ candidates ms else candidates ms

abbrev pub only : List (List ℕ) → Result (List ℕ) KeyRefusal
only [] = Err NoCandidate
only (name ∷ []) = Ok name
only (first ∷ second ∷ more) = Err (SeveralCandidates (length (first ∷ second ∷ more)))

abbrev pub key_of : Data → Result (List ℕ) KeyRefusal
key_of d = only (candidates (members_in d))
