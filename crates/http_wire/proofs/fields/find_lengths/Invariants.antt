use Rattle.std.proofs.Common.{take}
use Rattle.std.specs.List.{flat_map}
use Rattle.http_wire.specs.Fields.{LengthsAre, pair_of}
use Rattle.http_wire.specs.Judge.{length_value}
use Rattle.http_wire.proofs.fields.find_lengths.Given as goal

abbrev pub invariant-loop-field : goal.invariant-loop-field
invariant-loop-field l = LengthsAre (flat_map (λ field. length_value (pair_of field)) (take l.field-index l.fields)) l.found
