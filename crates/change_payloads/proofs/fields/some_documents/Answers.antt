use Rattle.std.proofs.lemmas.Result.{err_from_is_err_and}
use Rattle.change_payloads.specs.Fields.{documents_at}
use Rattle.change_payloads.proofs.Loop.{goes_on, ends, is_done}
use Rattle.change_payloads.proofs.fields.some_documents.Goals as goal

pub returns-in_err-document : goal.returns-in_err-document
returns-in_err-document c =
    let p = err_from_is_err_and c.from_residual.result c.from_residual.ensures.1 in
    rw (p.1, p.2) (ends c.in_err-document.field-0.0 c.loop.documents.items c.args.count c.loop.counter c.loop.rest.now (documents_at c.args.count c.args.bytes.now) c.loop-test.true c.in_err-document.ensures c.loop.invariant)

pub loop-preserved : goal.loop-preserved
loop-preserved c =
    rw c.in_ok-push.ensures.items (goes_on c.loop.documents.items c.args.count c.loop.counter c.loop.rest.now c.in_ok-document.document c.in_ok-document.after.now (documents_at c.args.count c.args.bytes.now) c.loop-test.true c.in_ok-document.ensures c.loop.invariant)

pub returns : goal.returns
returns c = is_done c.loop.documents.items c.args.count c.loop.counter c.loop.rest.now (documents_at c.args.count c.args.bytes.now) c.loop-test.false c.loop.invariant
