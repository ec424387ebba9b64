use Rattle.std.proofs.Common.{◌<◌, ◌^◌, ℕ, List, length, subst, ◌∙◌}
use Rattle.change_payloads.proofs.Back.{document_back}
use Rattle.change_payloads.proofs.writing.put_document.Goals as goal

pub returns-clause-bytes : goal.returns-clause-bytes
returns-clause-bytes c =
    let own = c.as_bytes.ensures.value ∙ c.text.ensures.text in
    rw (← own) c.in_ok-put_text.ensures.bytes

pub returns-clause-stored : goal.returns-clause-stored
returns-clause-stored c = record {
  back = document_back c.text.result.now c.args.document.now c.text.ensures.back c.text.ensures.text;
  short = subst (λ (t : List ℕ). length t < 2 ^ 32) (c.as_bytes.ensures.value ∙ c.text.ensures.text) c.in_ok-put_text.ensures.short;
}
