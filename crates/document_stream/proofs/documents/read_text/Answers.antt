use Rattle.std.proofs.Common.{◌≡◌, [], Err, ap, ◌∙◌, arith}
use Rattle.json.specs.Lex.{tokens}
use Rattle.document_stream.specs.Reads.{value_at, documents_left}
use Rattle.search_base.specs.declared.fault.Fault.TheVariants.{Refused}
use Rattle.document_stream.specs.declared.fault.BodyRefusal.TheVariants.{NotJson}
use Rattle.document_stream.proofs.Refusals.{gives_fault}
use Rattle.document_stream.proofs.Turns.{value_at-empty}
use Rattle.document_stream.proofs.documents.read_text.Goals as goal

pub returns-in_err-first : goal.returns-in_err-first
returns-in_err-first c =
    let empty : tokens c.args.text.now ≡ [] = grind arith in
    let is : c.from_residual-in_err-first.result ≡ Err (Refused NotJson) = grind arith in
    gives_fault _ _ _ (Refused NotJson) is (ap (λ ts. documents_left (value_at 127 ts)) empty ∙ ap documents_left (value_at-empty 127))
