use Rattle.std.proofs.Common.{◌≡◌, ap, ◌∙◌}
use Rattle.json.specs.Lex.{tokens}
use Rattle.document_stream.specs.Bodies.{documents_read}
use Rattle.document_stream.specs.Reads.{value_at, documents_left}
use Rattle.document_stream.proofs.Texts.{documents_read-text, documents_read-no_text}
use Rattle.document_stream.proofs.documents.read_documents.Goals as goal

pub returns-in-Ok : goal.returns-in-Ok
returns-in-Ok c =
    let text = c.in-Ok.ensures.cases in
    let same : documents_left (value_at 127 (tokens c.in-Ok.text.now)) ≡ documents_read c.args.body.now =
    ap (λ bytes. documents_left (value_at 127 (tokens bytes))) text.0 ∙ documents_read-text c.args.body.now text.1 in
    rw same at c.read_text.ensures

pub returns-in-Err : goal.returns-in-Err
returns-in-Err c = documents_read-no_text c.args.body.now c.in-Err.ensures.cases.0
