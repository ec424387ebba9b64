use Rattle.std.proofs.Common.{ℕ, List, Option, ap, ◌∙◌, subst}
use Rattle.std.specs.Io.KnownBytes.{prepend_known}
use Rattle.http_wire.specs.Head.{head_bytes}
use Rattle.http_wire.specs.Judge.{Parts, Judged, accepted}
use Rattle.http_wire.specs.Stops.{Stops, TakesFront, HeadRefused}
use Rattle.http_wire.specs.Wire.{request_of}
use Rattle.http_wire.proofs.Reasons.{head_stops, refused_stops, body_stops, takes_sized, earlier_body}
use Rattle.http_wire.proofs.Limits.{takes_limits}
use Rattle.http_wire.proofs.reading.read_request.Goals as goal

pub returns-in-Err-clause-stops : goal.returns-in-Err-clause-stops
returns-in-Err-clause-stops g c =
    let P : Option (List ℕ) → Type 0 = λ v. Stops v c.await_head.new.kept (g.P.Link.read_faults c.args.link.now) (g.P.Link.read_faults c.await_head.new.link) c.in-Err.why in
    subst P c.in-Err.ensures.same (head_stops c.await_head.new.kept (g.P.Link.left c.await_head.new.link) _ _ c.in-Err.why c.in-Err.ensures.stops)

pub returns-in-Err-read_head-clause-stops : goal.returns-in-Err-read_head-clause-stops
returns-in-Err-read_head-clause-stops g c =
    let P : Option (List ℕ) → Type 0 = λ v. Stops v c.await_head.new.kept (g.P.Link.read_faults c.args.link.now) (g.P.Link.read_faults c.await_head.new.link) c.in-Err-read_head.why in
    let H : List ℕ → Type 0 = λ v. HeadRefused v c.in-Err-read_head.why in
    let refused : HeadRefused (head_bytes c.await_head.new.kept c.in-Ok.found.0 c.in-Ok.found.1) c.in-Err-read_head.why =
    subst H (c.head_slice.ensures ∙ ap (λ v. head_bytes v c.in-Ok.found.0 c.in-Ok.found.1) c.bytes.ensures) c.in-Err-read_head.ensures.err in
    subst P c.in-Ok.ensures.same (refused_stops c.await_head.new.kept (g.P.Link.left c.await_head.new.link) _ _ _ _ c.in-Err-read_head.why c.in-Ok.ensures.head.0 c.in-Ok.ensures.head.1 refused)

pub returns-in-Err-await_body-clause-stops : goal.returns-in-Err-await_body-clause-stops
returns-in-Err-await_body-clause-stops g c =
    let parts : Parts = record { method = c.in-Ok-read_head.head.method; target = c.in-Ok-read_head.head.target; closes = c.in-Ok-read_head.head.closes } in
    let P : Option (List ℕ) → Type 0 = λ v. Stops v c.await_body.new.kept (g.P.Link.read_faults c.args.link.now) (g.P.Link.read_faults c.await_body.new.link) c.in-Err-await_body.why in
    let J : List ℕ → Type 0 = λ v. Judged v (accepted parts c.in-Ok-read_head.head.size) in
    let says : Judged (head_bytes c.await_head.new.kept c.in-Ok.found.0 c.in-Ok.found.1) (accepted parts c.in-Ok-read_head.head.size) =
    subst J (c.head_slice.ensures ∙ ap (λ v. head_bytes v c.in-Ok.found.0 c.in-Ok.found.1) c.bytes.ensures) c.in-Ok-read_head.ensures.ok in
    subst P (c.in-Err-await_body.ensures.same ∙ c.in-Ok.ensures.same)
    (body_stops c.await_head.new.kept c.await_body.new.kept (g.P.Link.left c.await_body.new.link) (g.P.Link.read_faults c.args.link.now) (g.P.Link.read_faults c.await_body.new.link)
    c.in-Ok.found.0 c.in-Ok.found.1 parts c.in-Ok-read_head.head.size c.in-Err-await_body.why
    c.in-Ok.ensures.head.0 c.in-Ok.ensures.head.1 c.in-Err-await_body.ensures.front says
    (earlier_body _ _ _ _ _ _ c.in-Err-await_body.why c.in-Ok.ensures.later c.in-Err-await_body.ensures.stops))

pub returns-clause-request : goal.returns-clause-request
returns-clause-request g c =
    let parts : Parts = record { method = c.in-Ok-read_head.head.method; target = c.in-Ok-read_head.head.target; closes = c.in-Ok-read_head.head.closes } in
    let J : List ℕ → Type 0 = λ v. Judged v (accepted parts c.in-Ok-read_head.head.size) in
    let says : Judged (head_bytes c.await_head.new.kept c.in-Ok.found.0 c.in-Ok.found.1) (accepted parts c.in-Ok-read_head.head.size) =
    subst J (c.head_slice.ensures ∙ ap (λ v. head_bytes v c.in-Ok.found.0 c.in-Ok.found.1) c.bytes.ensures) c.in-Ok-read_head.ensures.ok in
    let P : Option (List ℕ) → Type 0 = λ v. TakesFront v (record { method = parts.method; target = parts.target; body = c.in-Ok-take_body.body.items; closes = parts.closes })
    (prepend_known c.take_body.new.self (g.P.Link.left c.await_body.new.link)) in
    subst P (c.in-Ok-await_body.ensures.same ∙ c.in-Ok.ensures.same)
    (takes_sized c.await_head.new.kept c.await_body.new.kept (g.P.Link.left c.await_body.new.link) c.in-Ok.found.0 c.in-Ok.found.1 c.in-Ok-read_head.head.size parts
    c.in-Ok-take_body.body.items c.take_body.new.self
    c.in-Ok.ensures.head.0 c.in-Ok.ensures.head.1 c.in-Ok-await_body.ensures.front says c.in-Ok-await_body.ensures.enough
    c.in-Ok-take_body.ensures.body c.in-Ok-take_body.ensures.rest)

pub returns-clause-limits : goal.returns-clause-limits
returns-clause-limits g c =
    takes_limits _ (request_of record { method = c.in-Ok-read_head.head.method; target = c.in-Ok-read_head.head.target; body = c.in-Ok-take_body.body; closes = c.in-Ok-read_head.head.closes }) _ (returns-clause-request g c)
