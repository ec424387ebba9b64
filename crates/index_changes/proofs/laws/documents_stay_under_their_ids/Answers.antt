use Rattle.index_changes.proofs.StayLemmas.{documents_stay}
use Rattle.index_changes.proofs.laws.documents_stay_under_their_ids.Goals as goal

pub returns : goal.returns
returns c = documents_stay
