use Rattle.std.proofs.Common.{◌<◌, ◌^◌, ℕ, List, length, subst, ◌∙◌}
use Rattle.serde_json.specs.View.{view}
use Rattle.change_payloads.proofs.Back.{json_back}
use Rattle.change_payloads.proofs.writing.put_json.Goals as goal

pub returns-clause-back : goal.returns-clause-back
returns-clause-back c =
    let written = c.in_ok-text.ensures in
    let own = written.text c.requires.whole in
    record {
      back = json_back (view c.args.value.now) c.in_ok-text.text.items written.utf8 (written.reads_back c.requires.shallow) c.requires.whole own;
      short = subst (λ (t : List ℕ). length t < 2 ^ 32) (c.deref.ensures.value ∙ own) c.in_ok-put_text.ensures.short;
    }
