use Rattle.std.proofs.Common.{◌∙◌, ap, sym}
use Rattle.doc_sets.specs.Sets.{intersection}
use Rattle.rule_buckets.proofs.Tables.{none-of, none-left}
use Rattle.rule_buckets.proofs.asked.docs_at.Goals as goal

pub returns : goal.returns
returns c =
    c.new.ensures ∙ sym (none-of c.args.universe.now.ids)
    ∙ ap (λ l. intersection c.args.universe.now.ids l)
    (sym (none-left c.args.number c.args.rows.now c.loop-row.row-index c.loop-row-test.false) ∙ c.loop-row.invariant)
