use Rattle.std.proofs.Common.{arith}
use Rattle.document_changes.specs.Changes.{kind_view}
use Rattle.index_changes.proofs.Batching.{single-needed}
use Rattle.index_core.proofs.index.IndexCore.take.Goals as goal

pub returns-in_err-refusal_in-in-Err-apply-clause-at_most : goal.returns-in_err-refusal_in-in-Err-apply-clause-at_most
returns-in_err-refusal_in-in-Err-apply-clause-at_most g c =
    omega (arith, single-needed (kind_view c.args.change) c.args.self.now c.in-Ok.plan c.requires.kind c.in-Ok.ensures.plan, c.apply.ensures.at_most)

pub returns-in-Ok-apply-clause-at_most : goal.returns-in-Ok-apply-clause-at_most
returns-in-Ok-apply-clause-at_most g c =
    omega (arith, single-needed (kind_view c.args.change) c.args.self.now c.in-Ok.plan c.requires.kind c.in-Ok.ensures.plan, c.apply.ensures.at_most)

pub returns-in_ok-refusal_in-in-Err-apply-clause-at_most : goal.returns-in_ok-refusal_in-in-Err-apply-clause-at_most
returns-in_ok-refusal_in-in-Err-apply-clause-at_most g c =
    omega (arith, single-needed (kind_view c.args.change) c.args.self.now c.in-Ok.plan c.requires.kind c.in-Ok.ensures.plan, c.apply.ensures.at_most)
