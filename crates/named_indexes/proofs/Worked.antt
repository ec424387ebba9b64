-- A batch that was made, by the kinds of its changes.
use Rattle.std.proofs.Common.{◌≡◌, ◌≤◌, ℕ, List, [], ◌∷◌, length, get_or, Result, Ok, Err, sym, ap, subst, ◌∙◌, arith}
use Rattle.std.specs.Prelude.{IfOk, OnOk, OnErr}
use Rattle.std.specs.List.{AllByRecursion}
use Rattle.std.specs.Map.{keys_of}
use Rattle.document_changes.specs.Changes.{KindData, ChangeData}
use Rattle.index_changes.specs.Batches.{IsOneBatch, batch_needed}
use Rattle.index_changes.specs.Keyed.{HasKey}
use Rattle.task_queue.specs.declared.task.Task.{Task}
use Rattle.queued_changes.specs.Batches.{IsBatch, after_each, rows_of}
use Rattle.named_indexes.specs.Indexes.{Indexes, AreUids, index_or_empty}
use Rattle.named_indexes.specs.Changes.{changed}
use Rattle.named_indexes.specs.Inside.{kinds_in, after_kinds, rows_of_kinds}
use Rattle.named_indexes.specs.Needs.{need}
use Rattle.named_indexes.proofs.Alike.{AreAccepted, of_one, after_batch, rows_batch, have_keys, one_batch, uid_valid}
use Rattle.named_indexes.proofs.Uids.{uids_left}

-- the tasks behind the first
abbrev pub behind : List (Task ChangeData) → List (Task ChangeData)
behind [] = []
behind (t ∷ ts) = ts

pub split_first : (ts : List (Task ChangeData)) (first : Task ChangeData) → 1 ≤ length ts → first ≡ get_or ts 0 first → ts ≡ first ∷ behind ts
split_first [] first some is = absurd (omega (arith, some))
split_first (t ∷ ts) first some is = ap (λ (u : Task ChangeData). u ∷ ts) (sym is)

-- `ts` is the batch, `ks` are the kinds of its changes, `es` the indexes, and `new` what stands there afterwards
module _ (ts : List (Task ChangeData)) (first : Task ChangeData) (rest : List (Task ChangeData)) (split : ts ≡ first ∷ rest) (ks : List KindData) (kinds : ks ≡ kinds_in ts)
    (es new : Indexes) (batch : IsBatch ts) where
  named_after : after_kinds first.uid ks es ≡ after_each changed ts es
  named_after =
      ap (λ (l : List KindData). after_kinds first.uid l es) (kinds ∙ ap kinds_in split)
      ∙ sym (after_batch first.uid (first ∷ rest) es (of_one first rest (subst IsBatch split batch))) ∙ ap (λ (l : List (Task ChangeData)). after_each changed l es) (sym split)

  named_rows : rows_of_kinds first.uid ks es ≡ rows_of changed ts es
  named_rows =
      ap (λ (l : List KindData). rows_of_kinds first.uid l es) (kinds ∙ ap kinds_in split)
      ∙ sym (rows_batch first.uid (first ∷ rest) es (of_one first rest (subst IsBatch split batch))) ∙ ap (λ (l : List (Task ChangeData)). rows_of changed l es) (sym split)

  pub worked_applied : {A E : Type 0} (result : Result A E) → OnOk result (new ≡ after_kinds first.uid ks es) → OnOk result (new ≡ after_each changed ts es)
  worked_applied (Ok x) is = is ∙ named_after
  worked_applied (Err e) is = tt

  pub worked_rows : {A E : Type 0} (rows : A → List ℕ) (result : Result A E) → IfOk result (λ x. rows x ≡ rows_of_kinds first.uid ks es)
      → IfOk result (λ x. rows x ≡ rows_of changed ts es)
  worked_rows rows (Ok x) is = is ∙ named_rows
  worked_rows rows (Err e) is = tt

  pub worked_uids : {A E : Type 0} (result : Result A E) → OnOk result (new ≡ after_kinds first.uid ks es) → OnErr result (new ≡ es)
      → AreUids (keys_of es) → AreAccepted ts → AreUids (keys_of new)
  worked_uids (Ok x) is stays fit accepted =
      subst (λ (v : Indexes). AreUids (keys_of v)) (sym is) (uids_left ks es first.uid fit (uid_valid first rest (subst AreAccepted split accepted)))
  worked_uids (Err e) is stays fit accepted = subst (λ (v : Indexes). AreUids (keys_of v)) (sym stays) fit

  pub worked_batch : AreAccepted ts → IsOneBatch ks
  worked_batch accepted = subst IsOneBatch (sym (kinds ∙ ap kinds_in split)) (one_batch first rest (subst IsBatch split batch) (subst AreAccepted split accepted))

  pub worked_keys : AreAccepted ts → AllByRecursion HasKey ks
  worked_keys accepted = subst (AllByRecursion HasKey) (sym kinds) (have_keys ts accepted)

  pub worked_need : batch_needed ks (index_or_empty first.uid es) ≡ need ts es
  worked_need =
      ap (λ (l : List KindData). batch_needed l (index_or_empty first.uid es)) (kinds ∙ ap kinds_in split) ∙ ap (λ (l : List (Task ChangeData)). need l es) (sym split)
