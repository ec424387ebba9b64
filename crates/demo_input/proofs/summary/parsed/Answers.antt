use Rattle.std.proofs.Common.{◌≡◌, ◌∙◌, rules, sym, arith}
use Rattle.serde_json.specs.Data.{null}
use Rattle.serde_json.specs.View.{view}
use Rattle.serde_json.specs.declared.value.Value.{Null, the_lemmas}
use Rattle.serde_json.specs.Errors.{IsMemory}
use Rattle.demo_input.proofs.BodyLemmas.{value_in-json, value_in-no_json}
use Rattle.demo_input.proofs.summary.parsed.Goals as goal

pub returns-in-Ok : goal.returns-in-Ok
returns-in-Ok c = sym (value_in-json _ _ c.in-Ok.ensures.ok.0 c.in-Ok.ensures.ok.1)

pub returns-else-is_memory : goal.returns-else-is_memory
returns-else-is_memory c =
    let other : IsMemory c.in-Err.e → ⊥ = grind arith in
    let is_null : view Null ≡ null = search (rules, the_lemmas) in
    is_null ∙ sym (value_in-no_json _ (c.in-Err.ensures.err other))
