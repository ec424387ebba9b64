use Rattle.index_settings.proofs.json.settings_value.Goals as goal

pub returns-clause-within : goal.returns-clause-within
returns-clause-within c = rw (← c.settings.view_is) c.settings.invariant
