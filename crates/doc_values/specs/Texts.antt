-- A document kept as its canonical text.
use Rattle.std.specs.Prelude.{◌≡◌, ℕ, List, Some, unwrap_or}
use Rattle.serde_json.specs.Data.{Data, null}
use Rattle.serde_json.specs.Read.{read}
use Rattle.serde_json.specs.Written.{compact_text}
use Rattle.doc_values.specs.Whole.{IsDocument}

-- the JSON value of a text; of what is no JSON null
abbrev pub text_data : List ℕ → Data
text_data text = unwrap_or (read text) null

-- the text of a document, from which it is read back
pub record IsDocumentText (text : List ℕ) : Type 0 where
  pub document : IsDocument (text_data text)
  pub own : text ≡ compact_text (text_data text)
  pub reads : read text ≡ Some (text_data text)
