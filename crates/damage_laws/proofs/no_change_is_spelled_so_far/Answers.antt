use Rattle.damage_laws.proofs.ChangeTells.{no_change_so_far}
use Rattle.damage_laws.proofs.no_change_is_spelled_so_far.Goals as goal

pub returns : goal.returns
returns c = no_change_so_far
