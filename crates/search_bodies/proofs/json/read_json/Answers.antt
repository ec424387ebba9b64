use Rattle.std.proofs.Common.{arith}
use Rattle.search_bodies.proofs.JsonBodies.{json_read, json_refused}
use Rattle.serde_json.specs.Errors.{IsMemory}
use Rattle.search_bodies.proofs.json.read_json.Goals as goal

pub returns-in-Ok-clause-value : goal.returns-in-Ok-clause-value
returns-in-Ok-clause-value c = json_read _ _ c.in-Ok.ensures.ok.0 c.in-Ok.ensures.ok.1

pub returns-else-is_memory-clause-value : goal.returns-else-is_memory-clause-value
returns-else-is_memory-clause-value c =
    let other : IsMemory c.in-Err.e → ⊥ = grind arith in
    json_refused _ (c.in-Err.ensures.err other)
