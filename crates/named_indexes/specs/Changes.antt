-- What a change of the index of a uid leaves, or the number of the refusal that refuses it.
use Rattle.std.specs.Prelude.{ℕ, List, Bool, false, Option, is_none, is_some, ◌&&◌, Result, Ok}
use Rattle.document_changes.specs.Changes.{KindData, create, drop_index, replace, update, remove, clear, patch, reset, ChangeData}
use Rattle.index_changes.specs.Index.{Index, empty_index}
use Rattle.index_changes.specs.Plans.{planned, applied}
use Rattle.index_changes.specs.declared.refusal.CoreRefusal.{CoreRefusal}
use Rattle.index_changes.specs.declared.refusal.CoreRefusal.TheVariants as core
use Rattle.request_refusals.specs.declared.tasks.TaskRefusal.TheVariants.{NoIndex, IndexExists, KeyDiffers, NoCandidate, SeveralCandidates, MissingId, BadId, IndexesSpent, IdsSpent, PathsSpent}
use Rattle.request_refusals.specs.Tasks.{row_of}
use Rattle.search_base.specs.Trying.{◌>>=◌, ◌>>◌, refuse_if, or_refuse, refused_as}
use Rattle.named_indexes.specs.Indexes.{Indexes, index_at, index_or_empty, with_index, without_index, is_full}

-- Why an index refuses a change: the number by which the outcome of a task names it. A patch is tried before it is
-- accepted, so no index refuses its settings.
abbrev pub row_in : CoreRefusal → ℕ
row_in core.KeyDiffers = row_of KeyDiffers
row_in core.NoCandidate = row_of NoCandidate
row_in core.SeveralCandidates = row_of SeveralCandidates
row_in (core.MissingId document) = row_of MissingId
row_in (core.BadId document) = row_of BadId
row_in core.IdsSpent = row_of IdsSpent
row_in core.PathsSpent = row_of PathsSpent
row_in (core.Settings why) = 0

-- An index after a change of its documents or settings, where there may be as many indexes as there may ever be, and it
-- would be one more. The key is tried, then the ids of the documents in their order, and then the limits: those of
-- indexes, of internal ids and of paths.
abbrev pub index_after : Bool → Index → KindData → Result Index ℕ
index_after full old change = do
  plan ← refused_as row_in (planned old change)
  refuse_if full (row_of IndexesSpent)
  refused_as row_in (applied plan old)

-- an index is made, with a key or without
abbrev pub created : Indexes → List ℕ → Option (List ℕ) → Result Indexes ℕ
created es uid key = do
  refuse_if (is_some (index_at uid es)) (row_of IndexExists)
  refuse_if (is_full es) (row_of IndexesSpent)
  Ok (with_index uid (record { key = key; store = empty_index.store; settings = empty_index.settings }) es)

-- an index goes
abbrev pub dropped : Indexes → List ℕ → Result Indexes ℕ
dropped es uid = do
  i ← or_refuse (row_of NoIndex) (index_at uid es)
  Ok (without_index uid es)

-- documents or settings come to an index, which is made where it is not there
abbrev pub filled : Indexes → List ℕ → KindData → Result Indexes ℕ
filled es uid change = do
  i ← index_after (is_none (index_at uid es) && is_full es) (index_or_empty uid es) change
  Ok (with_index uid i es)

-- documents go from an index, or its settings become the defaults
abbrev pub emptied : Indexes → List ℕ → KindData → Result Indexes ℕ
emptied es uid change = do
  old ← or_refuse (row_of NoIndex) (index_at uid es)
  i ← index_after false old change
  Ok (with_index uid i es)

-- the indexes after a change of the one of this uid
abbrev pub indexes_after : Indexes → List ℕ → KindData → Result Indexes ℕ
indexes_after es uid (create key) = created es uid key
indexes_after es uid drop_index = dropped es uid
indexes_after es uid (replace given ds) = filled es uid (replace given ds)
indexes_after es uid (update given ds) = filled es uid (update given ds)
indexes_after es uid (remove ids) = emptied es uid (remove ids)
indexes_after es uid clear = emptied es uid clear
indexes_after es uid (patch members) = filled es uid (patch members)
indexes_after es uid reset = emptied es uid reset

-- the same of a change that says its uid too
abbrev pub changed : List ℕ → ChangeData → Indexes → Result Indexes ℕ
changed uid change es = indexes_after es uid change.kind
