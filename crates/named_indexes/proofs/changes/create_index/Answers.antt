use Rattle.std.proofs.Common.{◌<◌, ◌∙◌, length, sym, ap, arith}
use Rattle.queued_changes.specs.Machine.{left_in, row_in as row_done}
use Rattle.named_indexes.specs.Indexes.{with_index}
use Rattle.named_indexes.proofs.Naming.{created_new}
use Rattle.named_indexes.proofs.changes.create_index.Goals as goal

pub returns-clause-applied : goal.returns-clause-applied
returns-clause-applied g c =
    let es = c.args.entries.now.entries in
    let room : length es < 1000 = omega (arith, c.len.ensures.len) in
    let is = created_new es c.args.uid.now c.args.key c.in_ok-index.index (sym c.contains_key.ensures ∙ c.if-contains_key.false) room c.in_ok-index.ensures.index in
    c.in_ok-insert.ensures.entries ∙ ap (λ u. with_index u c.in_ok-index.index es) c.in_ok-uid.ensures.cases ∙ sym (ap (λ r. left_in r es) is)

pub returns-clause-row : goal.returns-clause-row
returns-clause-row g c =
    let es = c.args.entries.now.entries in
    let room : length es < 1000 = omega (arith, c.len.ensures.len) in
    let is = created_new es c.args.uid.now c.args.key c.in_ok-index.index (sym c.contains_key.ensures ∙ c.if-contains_key.false) room c.in_ok-index.ensures.index in
    sym (ap row_done is)
