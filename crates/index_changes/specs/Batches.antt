-- Changes that an index takes one after the other: what they leave, why they are refused, and how many stored documents
-- it takes to make them in one go.
use Rattle.std.specs.Prelude.{ℕ, ◌≡◌, List, [], ◌∷◌, length, filter_map, flat_map, codes, Bool, true, false, ◌||◌, Option, Some, Result, if◌then◌else◌}
use Rattle.std.specs.List.{AllByRecursion, list_any}
use Rattle.std.specs.Option.{is_some}
use Rattle.std.specs.Result.{result_err, result_ok, result_unwrap_or}
use Rattle.serde_json.specs.Data.{Data}
use Rattle.serde_json.specs.Find.{get}
use Rattle.search_base.specs.Trying.{◌>>=◌}
use Rattle.document_changes.specs.Changes.{KindData, replace, update, remove, patch, reset}
use Rattle.doc_values.specs.Ids.{external_id_of}
use Rattle.index_changes.specs.declared.batch.BatchKind.{BatchKind}
use Rattle.index_changes.specs.declared.batch.BatchKind.TheVariants as batch
use Rattle.index_changes.specs.declared.refusal.CoreRefusal.{CoreRefusal}
use Rattle.index_changes.specs.Fetches.{named_needed}
use Rattle.index_changes.specs.Index.{Index}
use Rattle.index_changes.specs.Plans.{planned, applied}

-- the index after a change, where that is not refused
abbrev pub changed_by : KindData → Index → Result Index CoreRefusal
changed_by change index = planned index change >>= (λ plan. applied plan index)

-- the index after changes one by one; one that is refused leaves it as it was
abbrev pub after_each : List KindData → Index → Index
after_each [] index = index
after_each (change ∷ changes) index = after_each changes (result_unwrap_or (changed_by change index) index)

-- why each of them is refused, if it is
abbrev pub faults_of : List KindData → Index → List (Option CoreRefusal)
faults_of [] index = []
faults_of (change ∷ changes) index =
    result_err (changed_by change index) ∷ faults_of changes (result_unwrap_or (changed_by change index) index)

-- ---- what is made in one go

abbrev pub batch_kind_of : KindData → BatchKind
batch_kind_of (replace given ds) = batch.Replace
batch_kind_of (update given ds) = batch.Update
batch_kind_of (remove ids) = batch.Remove
batch_kind_of other = batch.Single

abbrev pub first_kind : List KindData → BatchKind
first_kind [] = batch.Single
first_kind (change ∷ changes) = batch_kind_of change

-- all of these changes are of the kind
abbrev pub AreOf : BatchKind → List KindData → Type 0
AreOf kind changes = AllByRecursion (λ change. batch_kind_of change ≡ kind) changes

abbrev pub MayFollow : BatchKind → List KindData → Type 0
MayFollow batch.Single changes = changes ≡ []
MayFollow kind changes = AreOf kind changes

-- one change, or several of one kind among those that store documents or take them out by their ids
abbrev pub IsOneBatch : List KindData → Type 0
IsOneBatch [] = Unit {0}
IsOneBatch (change ∷ changes) = MayFollow (batch_kind_of change) changes

-- ---- the stored documents that it reads

-- the external ids that documents have under a key; a document without one has none
abbrev pub ids_among : List ℕ → List Data → List (List ℕ)
ids_among key ds = filter_map (λ d. result_ok (external_id_of key d)) ds

-- the external ids that a change names to an index with this key
abbrev pub names_in : Option (List ℕ) → KindData → List (List ℕ)
names_in (Some key) (replace given ds) = ids_among key ds
names_in (Some key) (update given ds) = ids_among key ds
names_in own (remove ids) = ids
names_in own other = []

-- a patch that names a member that says how paths are used
abbrev pub names_uses : Data → Bool
names_uses members =
    is_some (get (codes "searchableAttributes") members) || is_some (get (codes "filterableAttributes") members)
    || is_some (get (codes "sortableAttributes") members) || is_some (get (codes "rankingRules") members)

-- the change may have each document read
abbrev pub reads_all : KindData → Bool
reads_all (patch members) = names_uses members
reads_all reset = true
reads_all other = false

-- A batch that may have each document read needs them all, and another one those that its changes name, the refused ones
-- among them; each counts once.
abbrev pub batch_needed : List KindData → Index → ℕ
batch_needed changes index =
    if list_any reads_all changes then length index.store.rows
    else named_needed (flat_map (names_in index.key) changes) index
