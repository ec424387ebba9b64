use Rattle.posting_sets.proofs.BlockLemmas.{are_of_blocks}
use Rattle.posting_sets.proofs.law.numbers_are_those_of_blocks.Goals as goal

pub returns : goal.returns
returns c = are_of_blocks
