use Rattle.std.proofs.Common.{◌≡◌, length, map, ap, ◌∙◌, rules, arith}
use Rattle.std.proofs.lemmas.List.{length-map}
use Rattle.document_changes.specs.Changes.{kind_view}
use Rattle.named_indexes.proofs.Rows.{many_faults}
use Rattle.named_indexes.proofs.changes.change_index.Goals as goal

pub outcomes_of-requires-clause-room : goal.outcomes_of-requires-clause-room
outcomes_of-requires-clause-room g c =
    let many =
    ap length (c.as_slice.ensures.value ∙ c.in_ok-faults.ensures.faults) ∙ many_faults (map kind_view c.args.changes.items) c.args.index.now
    ∙ length-map c.args.changes.items kind_view in
    let len : c.len.result ≡ length c.args.changes.items = search rules in
    omega (arith, many, len, c.in_ok-outcomes.ensures.exact)
