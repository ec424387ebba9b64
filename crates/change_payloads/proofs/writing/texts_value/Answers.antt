use Rattle.std.proofs.Common.{arith}
use Rattle.std.proofs.lemmas.Grind.{common_steps}
use Rattle.std.proofs.Common.{◌≡◌, map}
use Rattle.serde_json.specs.Data.{string}
use Rattle.serde_json.specs.View.{view}
use Rattle.serde_json.proofs.Views.{view-Array}
use Rattle.change_payloads.proofs.Back.{shallow-texts}
use Rattle.change_payloads.proofs.Texts.{no_float-texts}
use Rattle.change_payloads.proofs.writing.texts_value.Goals as goal

pub returns-clause-whole : goal.returns-clause-whole
returns-clause-whole c =
    let all : map view c.loop-text.items.items ≡ map string c.args.texts.now = grind (arith, common_steps) in
    rw (view-Array c.loop-text.items, all) (no_float-texts c.args.texts.now)

pub returns-clause-shallow : goal.returns-clause-shallow
returns-clause-shallow c =
    let all : map view c.loop-text.items.items ≡ map string c.args.texts.now = grind (arith, common_steps) in
    rw (view-Array c.loop-text.items, all) (shallow-texts c.args.texts.now)
