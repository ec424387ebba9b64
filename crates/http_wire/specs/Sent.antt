-- A reply as the code holds it.
use Rattle.std.specs.Prelude.{◌≡◌, ℕ, Bool, List, ◌++◌, if◌then◌else◌}
use Rattle.http_wire.specs.declared.reply.Reply.{Reply}
use Rattle.http_wire.specs.declared.reply.Reply.TheVariants.{Made, Memory}
use Rattle.http_wire.specs.Reply.{Answer, wire, memory_answer}

-- the bytes that are sent for it
abbrev pub sent : Reply → Bool → List ℕ
sent (Made status head head_close body) closes = (if closes then head_close.items else head.items) ++ body.items
sent Memory closes = wire memory_answer closes

-- its status
abbrev pub status_of : Reply → ℕ
status_of (Made status head head_close body) = status
status_of Memory = memory_answer.status

-- its body
abbrev pub body_of : Reply → List ℕ
body_of (Made status head head_close body) = body.items
body_of Memory = memory_answer.body

-- the reply is this answer, and its bytes are sent
pub record IsSentAs (reply : Reply) (answer : Answer) : Type 0 where
  pub status : status_of reply ≡ answer.status
  pub body : body_of reply ≡ answer.body
  pub each : (closes : Bool) → sent reply closes ≡ wire answer closes
