use Rattle.std.proofs.Common.{◌<◌, ◌^◌, ℕ, List, length, sym, ap, subst, ◌∙◌}
use Rattle.std.specs.Str.{is_utf8}
use Rattle.change_payloads.proofs.Back.{utf8_test}
use Rattle.change_payloads.proofs.writing.put_word.Goals as goal

pub returns-clause-text : goal.returns-clause-text
returns-clause-text c = record {
  utf8 = ap is_utf8 (sym c.as_str.ensures) ∙ utf8_test c.as_str.result.now c.as_str.utf8;
  short = subst (λ (t : List ℕ). length t < 2 ^ 32) (c.as_bytes.ensures.value ∙ c.as_str.ensures) c.in_ok-put_text.ensures.short;
}
