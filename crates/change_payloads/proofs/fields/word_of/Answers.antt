use Rattle.std.proofs.Common.{Some, sym, ap, ◌∙◌}
use Rattle.change_payloads.proofs.Texts.{utf8_some, utf8_none}
use Rattle.change_payloads.proofs.fields.word_of.Goals as goal

pub returns-in_ok-new-in-Ok : goal.returns-in_ok-new-in-Ok
returns-in_ok-new-in-Ok c =
    let text = c.in-Ok.ensures.cases in
    ap (λ t. Some t) (c.in_ok-new-in-Ok.ensures ∙ text.0) ∙ sym (utf8_some c.args.bytes.now text.1)

pub returns-in-Err : goal.returns-in-Err
returns-in-Err c = sym (utf8_none c.args.bytes.now c.in-Err.ensures.cases.0)
