use Rattle.std.proofs.Common.{sym, ap, ◌∙◌, arith}
use Rattle.serde_json.specs.Errors.{IsMemory}
use Rattle.serde_json.specs.View.{view}
use Rattle.std.specs.Result.{result_ok}
use Rattle.index_image.proofs.Spelled.{spelled_none, spelled_read}
use Rattle.index_image.proofs.index.document_in.Goals as goal

pub returns-else-is_memory : goal.returns-else-is_memory
returns-else-is_memory c =
    let other : IsMemory c.in-Err.e → ⊥ = grind arith in
    spelled_none c.args.text.now (c.in-Err.ensures.err other)

pub returns-in-Ok-from_json : goal.returns-in-Ok-from_json
returns-in-Ok-from_json c =
    sym (spelled_read (view c.in-Ok.value) c.args.text.now c.in-Ok.ensures.ok.0 c.in-Ok.ensures.ok.1 ∙ ap result_ok c.in-Ok-from_json.ensures.answer)
