use Rattle.std.proofs.Common.{◌≡◌, take, drop, ◌+◌, ◌≤◌, length, arith, ◌∙◌, ap}
use Rattle.std.specs.Io.KnownBytes.{append_known}
use Rattle.http_wire.proofs.Writes.{known_more}
use Rattle.std.proofs.lemmas.List.{length-drop}
use Rattle.http_wire.proofs.reply.write_all.Goals as goal

pub loop-at-preserved : goal.loop-at-preserved
loop-at-preserved g c =
    let size : length c.rest_of.result.now ≡ length (drop c.loop-at.at c.args.piece.now) = ap length c.rest_of.ensures in
    let within : c.loop-at.at + c.in-Ok.count ≤ length c.args.piece.now = omega (arith, size, c.in-Ok.ensures.bytes.1, length-drop c.loop-at.at c.args.piece.now) in
    let after : g.P.Link.told c.write.new.self ≡ append_known (g.P.Link.told c.loop-at.link) (take c.in-Ok.count (drop c.loop-at.at c.args.piece.now)) =
    c.in-Ok.ensures.bytes.2 ∙ ap (λ v. append_known (g.P.Link.told c.loop-at.link) (take c.in-Ok.count v)) c.rest_of.ensures in
    record {
      within = within;
      told = known_more _ _ _ c.args.piece.now c.loop-at.at c.in-Ok.count c.loop-at.invariant.told after within;
      later = omega (arith, c.write.ensures.cause.later);
      left = c.write.ensures.left ∙ c.loop-at.invariant.left;
      read_faults = c.write.ensures.read_faults ∙ c.loop-at.invariant.read_faults;
    }
