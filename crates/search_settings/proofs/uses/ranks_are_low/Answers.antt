use Rattle.std.proofs.Common.{arith}
use Rattle.search_settings.proofs.UseLemmas.{ranked-below}
use Rattle.search_settings.proofs.uses.ranks_are_low.Goals as goal

pub returns : goal.returns
returns c = ranked-below c.args.settings.now 0 c.args.paths.now (omega (arith, c.requires)) c.searchable_attributes-entries.ensures.few
