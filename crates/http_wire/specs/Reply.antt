-- Replies, and their bytes.
use Rattle.std.specs.Prelude.{◌≡◌, ℕ, ◌<◌, Bool, true, false, List, [], ◌∷◌, ◌++◌, length, take, codes, decimal, Option}
use Rattle.std.specs.Io.KnownBytes.{append_known}
use Rattle.http.specs.StatusCode.{status_text}
use Rattle.http_wire.specs.declared.HeadKind.{HeadKind}
use Rattle.http_wire.specs.declared.HeadKind.TheVariants.{HeadTooLong, TooManyHeaders, Malformed, Coded, NoLength, BodyTooLarge}

-- what is answered: a status, and a body of JSON
pub record Answer : Type 0 where
  pub status : ℕ
  pub body : List ℕ

-- a line end
abbrev pub crlf : List ℕ
crlf = 13 ∷ 10 ∷ []

-- the line that says that the link closes
abbrev pub close_line : Bool → List ℕ
close_line true = codes "connection: close" ++ crlf
close_line false = []

-- the head of a reply with a body of so many bytes, for a link that closes after it or does not
unfoldable pub reply_head : ℕ → ℕ → Bool → List ℕ
reply_head status size closes =
    codes "HTTP/1.1 " ++ (status_text status ++ (crlf
    ++ (codes "content-length: " ++ (decimal size ++ (crlf
    ++ (codes "content-type: application/json" ++ (crlf
    ++ (close_line closes ++ crlf))))))))

-- the bytes of an answer
abbrev pub wire : Answer → Bool → List ℕ
wire a closes = reply_head a.status (length a.body) closes ++ a.body

-- the one answer for want of memory
abbrev pub memory_answer : Answer
memory_answer = record { status = 503; body = codes "{\"code\":\"no_memory\",\"message\":\"No memory.\",\"type\":\"system\"}" }

-- a part of the bytes was written, and not the whole
abbrev pub WrotePart : Option (List ℕ) → Option (List ℕ) → List ℕ → Type 0
WrotePart before after bytes = (n : ℕ) × (n < length bytes) × (after ≡ append_known before (take n bytes))

-- the error body with this code and message
abbrev pub refusal_body : List ℕ → List ℕ → List ℕ
refusal_body code message =
    codes "{\"code\":\"" ++ code ++ codes "\",\"message\":\"" ++ message ++ codes "\",\"type\":\"invalid_request\"}"

-- the answer to a head that is refused
abbrev pub refusal_answer : HeadKind → Answer
refusal_answer HeadTooLong = record { status = 431; body = refusal_body (codes "head_too_large") (codes "Head too large.") }
refusal_answer TooManyHeaders = record { status = 431; body = refusal_body (codes "head_too_large") (codes "Head too large.") }
refusal_answer Malformed = record { status = 400; body = refusal_body (codes "bad_request") (codes "Bad request.") }
refusal_answer Coded = record { status = 501; body = refusal_body (codes "not_implemented") (codes "Coded body.") }
refusal_answer NoLength = record { status = 411; body = refusal_body (codes "length_required") (codes "Length required.") }
refusal_answer BodyTooLarge = record { status = 413; body = refusal_body (codes "payload_too_large") (codes "Body too large.") }
