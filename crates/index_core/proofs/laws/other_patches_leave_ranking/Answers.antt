use Rattle.index_core.proofs.LawLemmas.{other_patches_leave_ranking}
use Rattle.index_core.proofs.laws.other_patches_leave_ranking.Goals as goal

pub returns : goal.returns
returns c = other_patches_leave_ranking
