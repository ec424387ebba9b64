-- Which changes have a spelling that is read again: their texts are UTF-8, their values are read back from their
-- compact texts, and no length or number passes its bytes.
use Rattle.std.specs.Prelude.{◌≡◌, ℕ, ◌<◌, ◌^◌, List, length, true, Option, Some, None}
use Rattle.std.specs.List.{AllByRecursion}
use Rattle.std.specs.Str.{is_utf8}
use Rattle.serde_json.specs.Data.{Data}
use Rattle.serde_json.specs.Written.{compact_text}
use Rattle.document_changes.specs.Changes.{KindData, create, drop_index, replace, update, remove, clear, patch, reset, ChangeData}
use Rattle.doc_values.specs.Stored.{document_at}
use Rattle.change_payloads.specs.Spelling.{texts_data}
use Rattle.change_payloads.specs.Fields.{json_of, ids_of}

pub record IsText (text : List ℕ) : Type 0 where
  pub utf8 : is_utf8 text ≡ true
  pub short : length text < 2 ^ 32

abbrev pub IsKey : Option (List ℕ) → Type 0
IsKey None = Unit {0}
IsKey (Some key) = IsText key

pub record IsStored (d : Data) : Type 0 where
  pub back : document_at (compact_text d) ≡ Some d
  pub short : length (compact_text d) < 2 ^ 32

pub record AreStored (ds : List Data) : Type 0 where
  pub few : length ds < 2 ^ 32
  pub each : AllByRecursion IsStored ds

pub record AreIds (ids : List (List ℕ)) : Type 0 where
  pub back : ids_of (compact_text (texts_data ids)) ≡ Some ids
  pub short : length (compact_text (texts_data ids)) < 2 ^ 32

pub record IsJson (d : Data) : Type 0 where
  pub back : json_of (compact_text d) ≡ Some d
  pub short : length (compact_text d) < 2 ^ 32

abbrev pub IsKind : KindData → Type 0
IsKind (create key) = IsKey key
IsKind drop_index = Unit {0}
IsKind (replace key ds) = IsKey key × AreStored ds
IsKind (update key ds) = IsKey key × AreStored ds
IsKind (remove ids) = AreIds ids
IsKind clear = Unit {0}
IsKind (patch members) = IsJson members
IsKind reset = Unit {0}

pub record IsChange (c : ChangeData) : Type 0 where
  pub uid : IsText c.uid
  pub kind : IsKind c.kind
