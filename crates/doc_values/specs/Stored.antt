-- The text by which a document is kept, and documents put together.
use Rattle.std.specs.Prelude.{ℕ, List, if◌then◌else◌, Option, Some, None, option_and_then}
use Rattle.std.specs.Result.{result_ok}
use Rattle.std.specs.Str.{is_utf8, bytes_eq}
use Rattle.serde_json.specs.Data.{Data, object, Members, no_members, member, put}
use Rattle.serde_json.specs.Read.{read}
use Rattle.serde_json.specs.Written.{compact_text}
use Rattle.doc_values.specs.Walk.{document_of, members_in}

abbrev pub if_text : List ℕ → Data → Option Data
if_text text d = if bytes_eq (compact_text d) text then Some d else None

abbrev pub at_value : List ℕ → Option Data → Option Data
at_value text value = option_and_then (λ d. option_and_then (if_text text) (result_ok (document_of d))) value

-- the document whose canonical text this is: the compact text of a document and no other
abbrev pub document_at : List ℕ → Option Data
document_at text = if is_utf8 text then at_value text (read text) else None

-- the members, one after another, each in place of what had its name
abbrev pub put_all : Members → Members → Members
put_all no_members found = found
put_all (member k d ms) found = put_all ms (put k d found)

-- the old members that the new document does not name, and the new ones
abbrev pub merge : Data → Data → Data
merge old new = object (put_all (members_in new) (members_in old))
