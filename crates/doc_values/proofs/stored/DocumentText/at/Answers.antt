use Rattle.std.proofs.Common.{◌≡◌, Some, sym, ap, ◌∙◌, true≢false, arith}
use Rattle.std.proofs.lemmas.Slice.Eq.{bytes_eq-Decides}
use Rattle.serde_json.specs.Errors.{IsMemory}
use Rattle.serde_json.specs.Written.{compact_text}
use Rattle.doc_values.specs.Stored.{document_at}
use Rattle.doc_values.proofs.Documents.{at_no_json, at_other_text}
use Rattle.doc_values.proofs.stored.DocumentText.at.Goals as goal

pub returns-else-is_memory : goal.returns-else-is_memory
returns-else-is_memory c =
    let other : IsMemory c.in-Err.e → ⊥ = grind arith in
    at_no_json _ (c.in-Err.ensures.err other)

pub returns-then-eq : goal.returns-then-eq
returns-then-eq c =
    let same : c.as_bytes.result.now ≡ c.args.text.now = (bytes_eq-Decides _ _).0 (sym c.eq.ensures ∙ c.if-eq.true) in
    sym c.text.ensures.back ∙ ap document_at (sym c.as_bytes.ensures.value ∙ same)

pub returns : goal.returns
returns c =
    let other : compact_text c.in_ok-own.own ≡ c.args.text.now → ⊥ = λ e. true≢false (sym ((bytes_eq-Decides _ _).1 (c.as_bytes.ensures.value ∙ c.text.ensures.text ∙ e)) ∙ sym c.eq.ensures ∙ c.if-eq.false) in
    let reads = c.in-Ok.ensures.ok.1 ∙ ap (λ d. Some d) (sym c.in-Ok-from_json.ensures.as_given) ∙ ap (λ d. Some d) (sym c.in_ok-own.ensures) in
    at_other_text _ _ c.text.ensures.is_document other c.in-Ok.ensures.ok.0 reads
