use Rattle.damage_laws.proofs.JournalTells.{no_entry_so_far}
use Rattle.damage_laws.proofs.no_entry_is_spelled_so_far.Goals as goal

pub returns : goal.returns
returns c = no_entry_so_far
