use Rattle.std.proofs.Common.{◌≡◌, map, take}
use Rattle.httparse.specs.Spans.{header_bytes}
use Rattle.http_wire.specs.Fields.{pair_of}
use Rattle.http_wire.proofs.fields.gather.Given as goal

abbrev pub invariant-loop-span : goal.invariant-loop-span
invariant-loop-span l = map pair_of l.fields.items ≡ map (header_bytes l.head) (take l.span-index l.spans)
