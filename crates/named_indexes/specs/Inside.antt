-- Words of the crate's own contracts: the changes of a batch by their kinds alone, since all are of one index.
use Rattle.std.specs.Prelude.{◌≡◌, ℕ, List, [], ◌∷◌, map, Option, None, Some, is_none, Result, Ok, Err, if◌then◌else◌}
use Rattle.std.specs.Cmp.Lexicographic.{slice_cmp}
use Rattle.std.specs.List.{list_any}
use Rattle.std.specs.List.Sorted.{IsStrictlySortedBy}
use Rattle.std.specs.Map.{keys_of}
use Rattle.std.specs.Ordering.{nat_cmp}
use Rattle.document_changes.specs.Changes.{KindData, create, drop_index, replace, update, remove, clear, patch, reset, ChangeData}
use Rattle.index_changes.specs.Batches.{after_each, faults_of}
use Rattle.index_changes.specs.Index.{empty_index}
use Rattle.index_changes.specs.PlanView.{PlanView}
use Rattle.index_changes.specs.Plans.{planned}
use Rattle.index_changes.specs.declared.refusal.CoreRefusal.{CoreRefusal}
use Rattle.request_refusals.specs.declared.tasks.TaskRefusal.TheVariants.{IndexesSpent}
use Rattle.request_refusals.specs.Tasks.{row_of}
use Rattle.task_queue.specs.declared.task.Task.{Task}
use Rattle.queued_changes.specs.Machine.{left_in, row_in as row_done}
use Rattle.named_indexes.specs.declared.changes.Effect.{Effect}
use Rattle.named_indexes.specs.declared.changes.Effect.TheVariants.{Name, Fill, Empty}
use Rattle.named_indexes.specs.Indexes.{Indexes, index_at, with_index}
use Rattle.named_indexes.specs.Changes.{indexes_after, row_in}

abbrev pub kinds_in : List (Task ChangeData) → List KindData
kinds_in ts = map (λ t. t.change.kind) ts

-- the indexes after changes of one of them
abbrev pub after_kinds : List ℕ → List KindData → Indexes → Indexes
after_kinds uid [] es = es
after_kinds uid (k ∷ ks) es = after_kinds uid ks (left_in (indexes_after es uid k) es)

-- what became of each
abbrev pub rows_of_kinds : List ℕ → List KindData → Indexes → List ℕ
rows_of_kinds uid [] es = []
rows_of_kinds uid (k ∷ ks) es = row_done (indexes_after es uid k) ∷ rows_of_kinds uid ks (left_in (indexes_after es uid k) es)

-- what a change is that makes an index or takes it away
abbrev pub Names : KindData → Type 0
Names (create key) = Unit {0}
Names drop_index = Unit {0}
Names other = ⊥

-- what a change is that makes the index where it is not there
abbrev pub Fills : KindData → Type 0
Fills (replace given ds) = Unit {0}
Fills (update given ds) = Unit {0}
Fills (patch members) = Unit {0}
Fills other = ⊥

-- what a change is that needs the index
abbrev pub Empties : KindData → Type 0
Empties (remove ids) = Unit {0}
Empties clear = Unit {0}
Empties reset = Unit {0}
Empties other = ⊥

abbrev pub HasEffect : Effect → KindData → Type 0
HasEffect Name k = Names k
HasEffect Fill k = Fills k
HasEffect Empty k = Empties k

-- what became of a change that an index took
abbrev pub fault_row : Option CoreRefusal → ℕ
fault_row None = 0
fault_row (Some why) = row_in why

-- what becomes of a change that may make no index
abbrev pub plan_row : Result PlanView CoreRefusal → ℕ
plan_row (Ok plan) = row_of IndexesSpent
plan_row (Err why) = row_in why

abbrev pub full_row : KindData → ℕ
full_row k = plan_row (planned empty_index k)

-- the indexes after changes of a new one: it is put in where one of them at least is made
abbrev pub put_new : List ℕ → List KindData → Indexes → Indexes
put_new uid ks es = if list_any is_none (faults_of ks empty_index) then with_index uid (after_each ks empty_index) es else es

-- indexes in their order, none of this uid
pub record IsAbsent (uid : List ℕ) (es : Indexes) : Type 0 where
  pub none : index_at uid es ≡ None
  pub ordered : IsStrictlySortedBy (slice_cmp nat_cmp) (keys_of es)
