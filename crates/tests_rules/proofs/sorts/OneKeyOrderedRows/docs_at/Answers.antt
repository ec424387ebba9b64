use Rattle.std.proofs.Common.{◌∙◌, sym}
use Rattle.tests_rules.proofs.OneKeyLemmas.{none-under}
use Rattle.tests_rules.proofs.sorts.OneKeyOrderedRows.docs_at.Goals as goal

pub returns-then-other : goal.returns-then-other
returns-then-other c =
    c.new.ensures ∙ none-under c.args.self.now.docs.ids c.args.universe.now.ids c.args.at.now
    (rw c.five-key.ensures at (sym c.differ-other.ensures ∙ c.if-other.true))
