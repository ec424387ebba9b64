use Rattle.std.proofs.Common.{ap, subst, ◌∙◌}
use Rattle.change_payloads.specs.Fits.{IsJson}
use Rattle.change_payloads.specs.Spelling.{texts_data}
use Rattle.change_payloads.proofs.Back.{ids_back}
use Rattle.change_payloads.proofs.writing.put_ids.Goals as goal

pub returns-clause-ids : goal.returns-clause-ids
returns-clause-ids c =
    let json = subst IsJson (c.in_ok-value.ensures.value ∙ ap texts_data c.deref.ensures.value) c.in_ok-put_json.ensures.back in
    record { back = ids_back c.args.ids.now.items json.back; short = json.short }
