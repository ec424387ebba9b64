use Rattle.damage_laws.proofs.Joined.{change_joined}
use Rattle.damage_laws.proofs.fields_spell_changes.Goals as goal

pub returns : goal.returns
returns c = change_joined
