use Rattle.std.proofs.Common.{ℕ, List, sym, subst}
use Rattle.http_wire.specs.Fields.{LengthsAre, pair_of}
use Rattle.http_wire.specs.Judge.{length_value}
use Rattle.http_wire.proofs.Lists.{flat_map_more}
use Rattle.http_wire.proofs.fields.find_lengths.Goals as goal

pub loop-field-preserved : goal.loop-field-preserved
loop-field-preserved c =
    let P : List (List ℕ) → Type 0 = λ v. LengthsAre v c.add_length-found.result in
    subst P (sym (flat_map_more (λ field. length_value (pair_of field)) c.args.fields.now c.loop-field.field-index _ c.loop-field-test.true))
    (c.add_length-found.ensures _ c.loop-field.invariant)
