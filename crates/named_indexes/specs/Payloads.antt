-- The payloads that record changes, and which changes they may be.
use Rattle.std.specs.Prelude.{◌≡◌, ◌<◌, ◌^◌, ◌&&◌, ℕ, List, length, nat_lt, slice_get, Bool, true, Option, Some, None, is_none, Result, Ok, Err, if◌then◌else◌}
use Rattle.document_changes.specs.Changes.{KindData, create, drop_index, replace, update, remove, clear, patch, reset, ChangeData}
use Rattle.doc_values.specs.Ids.{is_uid}
use Rattle.index_settings.specs.Table.{patch_fault}
use Rattle.change_payloads.specs.Change.{Spot, change_at}
use Rattle.change_payloads.specs.Spelling.{kind_byte, HasText}

-- a key that is given is not empty
abbrev pub is_key : Option (List ℕ) → Bool
is_key None = true
is_key (Some text) = nat_lt 0 (length text)

abbrev pub is_good_kind : KindData → Bool
is_good_kind (create key) = is_key key
is_good_kind drop_index = true
is_good_kind (replace key documents) = is_key key
is_good_kind (update key documents) = is_key key
is_good_kind (remove ids) = true
is_good_kind clear = true
is_good_kind (patch members) = is_none (patch_fault members)
is_good_kind reset = true

-- what a change says is what an index takes: its uid is one, its key is not empty, and its patch has no fault
abbrev pub is_good : ChangeData → Bool
is_good c = is_uid c.uid && is_good_kind c.kind

-- a good change that a payload can record
pub record IsRecordable (c : ChangeData) : Type 0 where
  pub good : is_good c ≡ true
  pub text : HasText c.kind

-- the payload spells the change, and its length has four bytes
pub record Records (c : ChangeData) (payload : List ℕ) : Type 0 where
  pub spells : change_at payload ≡ Ok c
  pub short : length payload < 2 ^ 32

-- where a payload begins: there a change is damaged that is not good
abbrev pub first_byte : List ℕ → Spot
first_byte payload = record { place = 0; found = slice_get payload 0 }

abbrev pub if_good : Spot → Result ChangeData Spot → Result ChangeData Spot
if_good start (Ok c) = if is_good c then Ok c else Err start
if_good start (Err damage) = Err damage

-- the good change that a payload spells, or where the payload is damaged
unfoldable pub recorded_in : List ℕ → Result ChangeData Spot
recorded_in payload = if_good (first_byte payload) (change_at payload)

-- a good change of the index of this uid, and this is the byte of its kind
pub record Accepts (uid : List ℕ) (kind : ℕ) (c : ChangeData) : Type 0 where
  pub uid_is : c.uid ≡ uid
  pub kind_is : kind ≡ kind_byte c.kind
  pub good : is_good c ≡ true
