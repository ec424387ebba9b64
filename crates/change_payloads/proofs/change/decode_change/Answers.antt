use Rattle.std.proofs.Common.{ap, subst, ◌∙◌, arith}
use Rattle.document_changes.specs.Changes.{change_view}
use Rattle.change_payloads.specs.Answers.{Decodes}
use Rattle.change_payloads.specs.Change.{change_at}
use Rattle.change_payloads.proofs.Again.{change_again}
use Rattle.change_payloads.proofs.Found.{is_found}
use Rattle.change_payloads.proofs.change.decode_change.Goals as goal

pub returns-clause-found : goal.returns-clause-found
returns-clause-found c = is_found c.args.bytes.now c.decoded.result (λ i. omega (arith, c.type_inv.bytes i)) c.decoded.ensures

pub returns-clause-only : goal.returns-clause-only
returns-clause-only c = λ change fits spelled. subst (λ f. Decodes change_view c.decoded.result f) (ap change_at spelled ∙ change_again change fits) c.decoded.ensures
