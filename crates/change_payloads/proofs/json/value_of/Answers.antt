use Rattle.std.proofs.Common.{◌≡◌, false, sym, ◌∙◌, arith}
use Rattle.std.proofs.lemmas.Slice.Eq.{bytes_eq-Decides}
use Rattle.serde_json.specs.Errors.{IsMemory}
use Rattle.serde_json.specs.View.{view}
use Rattle.serde_json.specs.Written.{has_float}
use Rattle.change_payloads.proofs.Texts.{json_none, json_own}
use Rattle.change_payloads.proofs.json.value_of.Goals as goal

pub returns-else-is_memory : goal.returns-else-is_memory
returns-else-is_memory c =
    let other : IsMemory c.in-Err.e → ⊥ = grind arith in
    json_none c.args.bytes.now (c.in-Err.ensures.err other)

pub returns-then-eq : goal.returns-then-eq
returns-then-eq c =
    let whole : has_float (view c.in-Ok.value) ≡ false = sym c.has_float.ensures ∙ c.if-has_float.false in
    let same : c.in_ok-own.own.items ≡ c.args.bytes.now = sym c.as_slice.ensures.value ∙ (bytes_eq-Decides _ _).0 (sym c.eq.ensures ∙ c.if-eq.true) in
    sym (json_own (view c.in-Ok.value) c.args.bytes.now c.in-Ok.ensures.ok.0 c.in-Ok.ensures.ok.1 whole (sym (c.in_ok-own.ensures.text whole) ∙ same))
