use Rattle.std.proofs.Common.{sym, ap, subst, ◌∙◌}
use Rattle.search_base.specs.Gives.{Fails}
use Rattle.search_base.specs.declared.fault.Fault.{Fault}
use Rattle.document_changes.specs.Changes.{kind_view}
use Rattle.index_changes.specs.Plans.{planned}
use Rattle.index_changes.specs.declared.refusal.CoreRefusal.{CoreRefusal}
use Rattle.named_indexes.specs.Inside.{plan_row}
use Rattle.named_indexes.proofs.changes.refused_one.Goals as goal

pub returns-in-Ok : goal.returns-in-Ok
returns-in-Ok c = c.failed.ensures ∙ sym (ap plan_row c.in-Ok.ensures.plan)

pub returns-in-Err-Refused : goal.returns-in-Err-Refused
returns-in-Err-Refused c =
    let refused =
    subst (λ (f : Fault CoreRefusal). Fails f (planned c.args.index.now (kind_view c.args.change))) c.in-Err-Refused.field-0-is c.in-Err-Refused.ensures.plan in
    c.row.ensures ∙ sym (ap plan_row refused)
