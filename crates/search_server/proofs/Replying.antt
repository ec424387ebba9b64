-- A reply that is not the one for want of memory.
use Rattle.std.specs.Prelude.{◌≡◌, true, false}
use Rattle.http_wire.specs.Stream.{Request}
use Rattle.http_wire.specs.Sent.{status_of, body_of}
use Rattle.http_wire.specs.declared.reply.Reply.{Reply}
use Rattle.search_routes.specs.Chosen.{answer_of, state_after}
use Rattle.search_routes.specs.Done.{Noted, Answered}

pub made : (old new : Noted) (q : Request) (reply : Reply) → Answered old q reply new → (status_of reply ≡ 503 → ⊥)
    → (body_of reply ≡ (answer_of old.state q false).body) × (new.state ≡ state_after old.state q false)
made old new q reply (true, sent, state, opens) other = absurd (other sent.status)
made old new q reply (false, sent, state, opens) other = (sent.body, state)
