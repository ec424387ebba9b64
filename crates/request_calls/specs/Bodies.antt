-- The bodies of requests.
use Rattle.std.specs.Prelude.{ℕ, ◌+◌, List, [], ◌∷◌, length, nat_lt, Bool, true, false, codes, Option, Some, None, option_map, Result, Ok, Err, if◌then◌else◌}
use Rattle.std.specs.Str.{bytes_eq}
use Rattle.serde_json.specs.Data.{Data, null, boolean, number, string, array, object, Items, no_items, item, Members, no_members, member}
use Rattle.search_base.specs.Trying.{◌>>=◌, ◌>>◌, first_of, or_refuse, refused_as}
use Rattle.index_settings.specs.declared.fault.SettingsRefusal.{SettingsRefusal}
use Rattle.index_settings.specs.declared.fault.SettingsRefusal.TheVariants as settings
use Rattle.index_settings.specs.Table.{patch_fault}
use Rattle.doc_values.specs.Ids as ids
use Rattle.doc_values.specs.Ids.{is_uid}
use Rattle.document_stream.specs.Bodies.{documents_read}
use Rattle.document_stream.specs.declared.fault.BodyRefusal.{BodyRefusal}
use Rattle.document_stream.specs.declared.fault.BodyRefusal.TheVariants as body
use Rattle.search_bodies.specs.Json.{json_in, members_of, as_text, text_at}
use Rattle.request_refusals.specs.declared.refusal.Refusal.{Refusal}
use Rattle.request_refusals.specs.declared.refusal.Refusal.TheVariants.{InvalidUid, Unknown, NotJson, NotList, NotObject, NumberNotWhole, BadListedId, MissingUid, BadSettings, BadRankingRule}

-- ---- an index that is to be made

-- a text that is not empty, or null
abbrev pub is_key_or_null : Data → Bool
is_key_or_null null = true
is_key_or_null (boolean b) = false
is_key_or_null (number n) = false
is_key_or_null (string s) = nat_lt 0 (length s)
is_key_or_null (array ds) = false
is_key_or_null (object ms) = false

abbrev pub is_uid_text : Option (List ℕ) → Bool
is_uid_text None = false
is_uid_text (Some text) = is_uid text

abbrev pub index_member_fault : List ℕ → Data → Option Refusal
index_member_fault name d =
    if bytes_eq name (codes "primaryKey") then (if is_key_or_null d then None else Some (Unknown name))
    else (if bytes_eq name (codes "uid") then (if is_uid_text (as_text d) then None else Some InvalidUid)
    else Some (Unknown name))

-- the first in the byte order of names
abbrev pub index_members_fault : Members → Option Refusal
index_members_fault no_members = None
index_members_fault (member name d ms) = first_of (index_member_fault name d) (index_members_fault ms)

-- the uid, and the primary key where one is given
abbrev pub index_from_members : Members → Result (List ℕ × Option (List ℕ)) Refusal
index_from_members ms =
    index_members_fault ms
    >> (or_refuse MissingUid (text_at (codes "uid") ms) >>= λ uid. Ok (uid, text_at (codes "primaryKey") ms))

abbrev pub index_from : Data → Result (List ℕ × Option (List ℕ)) Refusal
index_from d = members_of d >>= index_from_members

abbrev pub index_in : List ℕ → Result (List ℕ × Option (List ℕ)) Refusal
index_in body = json_in body >>= index_from

-- ---- added documents

abbrev pub body_refusal : BodyRefusal → Refusal
body_refusal body.NotJson = NotJson
body_refusal body.NotList = NotList
body_refusal (body.NotObject k) = NotObject k
body_refusal (body.NumberNotWhole k path) = NumberNotWhole k path

-- the documents of a body: one object, or each member of an array
abbrev pub documents_in : List ℕ → Result (List Data) Refusal
documents_in body = refused_as body_refusal (documents_read body)

-- ---- documents that are to go

-- the ids of a list, whose first stands at this place, from 1
abbrev pub ids_from : ℕ → Items → Result (List (List ℕ)) Refusal
ids_from place no_items = Ok []
ids_from place (item d ds) = do
  id ← or_refuse (BadListedId place) (ids.id_in d)
  more ← ids_from (place + 1) ds
  Ok (id ∷ more)

abbrev pub ids_of : Data → Result (List (List ℕ)) Refusal
ids_of null = Err NotList
ids_of (boolean b) = Err NotList
ids_of (number n) = Err NotList
ids_of (string s) = Err NotList
ids_of (array ds) = ids_from 1 ds
ids_of (object ms) = Err NotList

-- the ids of a body, which is an array of them
abbrev pub ids_in : List ℕ → Result (List (List ℕ)) Refusal
ids_in body = json_in body >>= ids_of

-- ---- a patch of settings

-- why a patch is refused, by its first fault, which names no member where the patch is no object
abbrev pub settings_refusal : SettingsRefusal → Refusal
settings_refusal (settings.UnknownMember name) = Unknown name
settings_refusal (settings.WrongShape []) = Unknown (codes "body")
settings_refusal (settings.WrongShape (b ∷ bytes)) = BadSettings (b ∷ bytes)
settings_refusal (settings.BadRankingRule text) = BadRankingRule text

abbrev pub patch_refusal : Data → Option Refusal
patch_refusal d = option_map settings_refusal (patch_fault d)

abbrev pub patch_from : Data → Result Data Refusal
patch_from d = patch_refusal d >> Ok d

-- the patch that a body is
abbrev pub patch_in : List ℕ → Result Data Refusal
patch_in body = json_in body >>= patch_from
