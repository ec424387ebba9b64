use Rattle.index_settings.proofs.Printed.{printed_back}
use Rattle.index_settings.proofs.laws.printed_gives_back.Goals as goal

pub returns : goal.returns
returns c = printed_back
