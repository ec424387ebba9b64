use Rattle.std.proofs.Common.{◌++◌, sym, ap, ◌∙◌}
use Rattle.std.specs.Result.{result_err, result_unwrap_or}
use Rattle.doc_store.specs.Store.{all_stored, spent}
use Rattle.index_changes.specs.Gathering.{rows_in}
use Rattle.index_changes.proofs.Admitted.{admitting-within}
use Rattle.index_changes.proofs.Gathering.{admitted-keyed}
use Rattle.index_changes.proofs.gathered.admit.Goals as goal

pub returns-in_ok-append-in-Ok-clause-fault : goal.returns-in_ok-append-in-Ok-clause-fault
returns-in_ok-append-in-Ok-clause-fault c =
    let s = c.args.store.now.content in
    let before = c.args.gathering.now.rows.items in
    let all = before ++ c.as_slice.result.now in
    let within = admitting-within c.args.store.now.ids s all c.admit_noted.new.admitting (c.in-Ok.ensures.more before c.requires.admitting) in
    let none = ap (λ l. spent (all_stored (before ++ l) s)) (sym c.as_slice.ensures.value) ∙ within in
    sym (ap result_err (admitted-keyed (record { key = c.args.planned.key; rows = before ++ c.args.planned.rows.items }) (spent (all_stored (before ++ c.args.planned.rows.items) s)) none))

pub returns-in_ok-append-in-Ok-clause-taken : goal.returns-in_ok-append-in-Ok-clause-taken
returns-in_ok-append-in-Ok-clause-taken c =
    let s = c.args.store.now.content in
    let before = c.args.gathering.now.rows.items in
    let all = before ++ c.as_slice.result.now in
    let within = admitting-within c.args.store.now.ids s all c.admit_noted.new.admitting (c.in-Ok.ensures.more before c.requires.admitting) in
    let none = ap (λ l. spent (all_stored (before ++ l) s)) (sym c.as_slice.ensures.value) ∙ within in
    let taken = admitted-keyed (record { key = c.args.planned.key; rows = before ++ c.args.planned.rows.items }) (spent (all_stored (before ++ c.args.planned.rows.items) s)) none in
    ap (λ l. record { key = c.args.planned.key; rows = l }) c.in_ok-append-in-Ok.ensures.items
    ∙ sym (ap (λ r. result_unwrap_or r (rows_in c.args.gathering.now)) taken)
