use Rattle.std.proofs.Common.{◌≡◌, ◌∙◌, ℕ, true, List, sym, ap, subst}
use Rattle.doc_sets.specs.Sets.{has}
use Rattle.condition_graph.specs.declared.condition.Condition.{Condition}
use Rattle.condition_graph.specs.Numbers.{at_number}
use Rattle.rule_buckets.proofs.Tables.{at-own, table-tells}
use Rattle.rule_buckets.proofs.asked.documents_meeting.Goals as goal

pub returns-clause-docs : goal.returns-clause-docs
returns-clause-docs g c =
    table-tells (g.S.RuleSource.rows c.args.source.now) c.in_ok-table.table c.args.condition.now c.in-Some.number c.args.universe.now.ids c.in_ok-docs-4.docs.ids
    c.as_slice.result.now c.in_ok-table.ensures.right
    (at-own c.args.condition.now c.in-Some.number (sym c.number.ensures ∙ c.in-Some.is)
    ∙ ap (λ (of : Condition). at_number c.in-Some.number of) (sym c.in_ok-table.ensures.condition))
    c.requires.condition (λ d h. ap (λ (l : List ℕ). has l d) c.in_ok-table.ensures.universe ∙ h)
    c.as_slice.ensures.value c.in_ok-docs-4.ensures
