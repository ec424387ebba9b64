use Rattle.change_payloads.specs.Fits.{IsStored}
use Rattle.change_payloads.specs.Spelling.{json}
use Rattle.change_payloads.proofs.Back.{all_more, flat_more}
use Rattle.change_payloads.proofs.writing.put_documents.Goals as goal

pub loop-document-preserved : goal.loop-document-preserved
loop-document-preserved c = (
  flat_more json c.args.documents.now c.loop-document.document-index c.document-item.result c.args.out.now.items c.loop-document.out.items c.put_document.new.out.items c.loop-document-test.true c.document-item.is c.loop-document.invariant.0 c.in_ok-put_document.ensures.bytes,
  all_more IsStored c.args.documents.now c.loop-document.document-index c.document-item.result c.loop-document-test.true c.document-item.is c.loop-document.invariant.1 c.in_ok-put_document.ensures.stored,
)
