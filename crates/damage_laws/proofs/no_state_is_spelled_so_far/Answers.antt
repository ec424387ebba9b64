use Rattle.damage_laws.proofs.ImageTells.{no_state_so_far}
use Rattle.damage_laws.proofs.no_state_is_spelled_so_far.Goals as goal

pub returns : goal.returns
returns c = no_state_so_far
