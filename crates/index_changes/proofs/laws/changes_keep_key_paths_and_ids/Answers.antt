use Rattle.index_changes.proofs.LawLemmas.{key_stays, paths_stay, ids_are_spent_once}
use Rattle.index_changes.proofs.laws.changes_keep_key_paths_and_ids.Goals as goal

pub returns-clause-key : goal.returns-clause-key
returns-clause-key c = key_stays

pub returns-clause-paths : goal.returns-clause-paths
returns-clause-paths c = paths_stay

pub returns-clause-ids : goal.returns-clause-ids
returns-clause-ids c = ids_are_spent_once
