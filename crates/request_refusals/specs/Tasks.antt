-- Why tasks fail: the numbers by which their outcomes are kept, and the codes by which they are told.
use Rattle.std.specs.Prelude.{ℕ, ◌==◌, List, [], codes, if◌then◌else◌}
use Rattle.request_refusals.specs.declared.tasks.TaskRefusal.{TaskRefusal}
use Rattle.request_refusals.specs.declared.tasks.TaskRefusal.TheVariants.{NoIndex, IndexExists, KeyDiffers, NoCandidate, SeveralCandidates, MissingId, BadId, IndexesSpent, IdsSpent, PathsSpent}

-- never 0, which stands for a task that succeeded
abbrev pub row_of : TaskRefusal → ℕ
row_of NoIndex = 23
row_of IndexExists = 24
row_of KeyDiffers = 26
row_of NoCandidate = 27
row_of SeveralCandidates = 28
row_of MissingId = 29
row_of BadId = 30
row_of IndexesSpent = 32
row_of IdsSpent = 33
row_of PathsSpent = 34

-- the code of the refusal of a number; no text where no task is refused by it
abbrev pub code_of_row : ℕ → List ℕ
code_of_row row =
    if row == 23 then codes "index_not_found"
    else if row == 24 then codes "index_already_exists"
    else if row == 26 then codes "index_primary_key_already_exists"
    else if row == 27 then codes "index_primary_key_no_candidate_found"
    else if row == 28 then codes "index_primary_key_multiple_candidates_found"
    else if row == 29 then codes "missing_document_id"
    else if row == 30 then codes "invalid_document_id"
    else if row == 32 then codes "indexes_spent"
    else if row == 33 then codes "ids_spent"
    else if row == 34 then codes "paths_spent"
    else []
