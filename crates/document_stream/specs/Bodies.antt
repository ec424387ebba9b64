-- The documents of a body.
use Rattle.std.specs.Prelude.{ℕ, List, Option, None, Result, if◌then◌else◌}
use Rattle.std.specs.Str.{is_utf8}
use Rattle.serde_json.specs.Data.{Data}
use Rattle.serde_json.specs.Read.{read}
use Rattle.search_base.specs.Trying.{◌>>=◌, or_refuse, refused_as}
use Rattle.doc_values.specs.Bodies.{documents_of}
use Rattle.doc_values.specs.declared.bodies.BodyRefusal.TheVariants as whole
use Rattle.doc_values.specs.declared.bodies.BodyRefusal as values
use Rattle.document_stream.specs.declared.fault.BodyRefusal.{BodyRefusal}
use Rattle.document_stream.specs.declared.fault.BodyRefusal.TheVariants.{NotJson, NotList, NotObject, NumberNotWhole}

-- the JSON value that a body is
abbrev pub json_of : List ℕ → Option Data
json_of body = if is_utf8 body then read body else None

abbrev pub refusal_of : values.BodyRefusal → BodyRefusal
refusal_of whole.NotList = NotList
refusal_of (whole.NotObject place) = NotObject place
refusal_of (whole.NumberNotWhole place path) = NumberNotWhole place path

abbrev pub documents_in_json : Option Data → Result (List Data) BodyRefusal
documents_in_json json = or_refuse NotJson json >>= (λ d. refused_as refusal_of (documents_of d))

-- the documents of a body that is JSON: the members of a list, or an object as the only one
abbrev pub documents_read : List ℕ → Result (List Data) BodyRefusal
documents_read body = documents_in_json (json_of body)
