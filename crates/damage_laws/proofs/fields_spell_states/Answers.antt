use Rattle.damage_laws.proofs.Joined.{fields_joined}
use Rattle.damage_laws.proofs.fields_spell_states.Goals as goal

pub returns : goal.returns
returns c = fields_joined
