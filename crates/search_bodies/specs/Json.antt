-- The JSON value that a body is, and its members.
use Rattle.std.specs.Prelude.{ℕ, List, codes, Option, Some, None, Result, Ok, Err}
use Rattle.serde_json.specs.Data.{Data, null, boolean, number, string, array, object, Members}
use Rattle.serde_json.specs.Find.{get_member}
use Rattle.search_base.specs.Trying.{or_refuse}
use Rattle.document_stream.specs.Bodies.{json_of}
use Rattle.request_refusals.specs.declared.refusal.Refusal.{Refusal}
use Rattle.request_refusals.specs.declared.refusal.Refusal.TheVariants.{Unknown, NotJson}

-- the JSON value that a body is
abbrev pub json_in : List ℕ → Result Data Refusal
json_in body = or_refuse NotJson (json_of body)

-- the members of a body that is to be an object
abbrev pub members_of : Data → Result Members Refusal
members_of null = Err (Unknown (codes "body"))
members_of (boolean b) = Err (Unknown (codes "body"))
members_of (number n) = Err (Unknown (codes "body"))
members_of (string s) = Err (Unknown (codes "body"))
members_of (array ds) = Err (Unknown (codes "body"))
members_of (object ms) = Ok ms

-- the text that a member is, where it is there and is one
abbrev pub as_text : Data → Option (List ℕ)
as_text null = None
as_text (boolean b) = None
as_text (number n) = None
as_text (string s) = Some s
as_text (array ds) = None
as_text (object ms) = None

abbrev pub text_or_none : Option Data → Option (List ℕ)
text_or_none None = None
text_or_none (Some d) = as_text d

abbrev pub text_at : List ℕ → Members → Option (List ℕ)
text_at name ms = text_or_none (get_member name ms)
