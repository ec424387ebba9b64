-- What changes come to where no index has their uid.
use Rattle.std.proofs.Common.{◌≡◌, ℕ, ◌≤◌, ◌<◌, List, [], ◌∷◌, length, map, Option, None, Result, Ok, Err, cond, refl, sym, ap, ap₂, ◌∙◌}
use Rattle.std.specs.Prelude.{IfOk, OnOk, OnErr, replicate}
use Rattle.std.specs.List.{AllByRecursion, list_any}
use Rattle.std.specs.Option.{is_none}
use Rattle.std.proofs.lemmas.Bool.{le-leb, lt-leb}
use Rattle.document_changes.specs.Changes.{KindData}
use Rattle.index_changes.specs.Batches.{after_each, batch_needed, faults_of}
use Rattle.index_changes.specs.Index.{Index, empty_index}
use Rattle.index_changes.specs.declared.refusal.CoreRefusal.{CoreRefusal}
use Rattle.named_indexes.specs.Indexes.{Indexes, index_at, with_index}
use Rattle.named_indexes.specs.Inside.{after_kinds, rows_of_kinds, IsAbsent, Fills, Empties, fault_row, full_row, put_new}
use Rattle.named_indexes.proofs.Batches.{rows_new, after_new, rows_full, after_full, rows_none, after_none}

-- changes that make the index
module _ (uid : List ℕ) (ks : List KindData) (es : Indexes) (fills : AllByRecursion Fills ks) (absent : IsAbsent uid es) where
  pub new_applied : {A E : Type 0} (result : Result A E) (new : Indexes) → length es < 1000 → OnOk result (new ≡ put_new uid ks es) → OnOk result (new ≡ after_kinds uid ks es)
  new_applied (Ok x) new room is = is ∙ sym (after_new uid ks es fills absent.ordered absent.none (lt-leb 1000 (length es) room))
  new_applied (Err e) new room is = tt

  pub new_rows : {A E : Type 0} (rows : A → List ℕ) (result : Result A E) → length es < 1000 → IfOk result (λ x. rows x ≡ map fault_row (faults_of ks empty_index))
      → IfOk result (λ x. rows x ≡ rows_of_kinds uid ks es)
  new_rows rows (Ok x) room is = is ∙ sym (rows_new uid ks es fills absent.none (lt-leb 1000 (length es) room))
  new_rows rows (Err e) room is = tt

  -- there are as many indexes as there may be
  pub full_applied : {A E : Type 0} (result : Result A E) → 1000 ≤ length es → OnOk result (es ≡ after_kinds uid ks es)
  full_applied (Ok x) full = sym (after_full uid ks es fills absent.none (le-leb 1000 (length es) full))
  full_applied (Err e) full = tt

  pub full_rows : {A E : Type 0} (rows : A → List ℕ) (result : Result A E) → 1000 ≤ length es → IfOk result (λ x. rows x ≡ map full_row ks)
      → IfOk result (λ x. rows x ≡ rows_of_kinds uid ks es)
  full_rows rows (Ok x) full is = is ∙ sym (rows_full uid ks es fills absent.none (le-leb 1000 (length es) full))
  full_rows rows (Err e) full is = tt

-- changes that need the index
module _ (uid : List ℕ) (ks : List KindData) (es : Indexes) (empties : AllByRecursion Empties ks) (none : index_at uid es ≡ None) where
  pub none_applied : {A E : Type 0} (result : Result A E) (new : Indexes) → new ≡ es → OnOk result (new ≡ after_kinds uid ks es)
  none_applied (Ok x) new same = same ∙ sym (after_none uid ks es empties none)
  none_applied (Err e) new same = tt

  pub none_rows : {A E : Type 0} (rows : A → List ℕ) (result : Result A E) (count : ℕ) → count ≡ length ks → IfOk result (λ x. rows x ≡ replicate count 23)
      → IfOk result (λ x. rows x ≡ rows_of_kinds uid ks es)
  none_rows rows (Ok x) count many is = is ∙ ap (λ (n : ℕ). replicate n 23) many ∙ sym (rows_none uid ks es empties none ∙ each ks)
    where
      each : (ks : List KindData) → map {B = ℕ} (λ k. 23) ks ≡ replicate (length ks) 23
      each [] = refl
      each (k ∷ ks) = ap (λ (rows : List ℕ). 23 ∷ rows) (each ks)
  none_rows rows (Err e) count many is = tt

-- the same where the result is not `Ok`
pub stays_same : {A E : Type 0} (result : Result A E) (new es : Indexes) → new ≡ es → OnErr result (new ≡ es)
stays_same (Ok x) new es same = tt
stays_same (Err e) new es same = same

-- a new index, which changes were made on
module _ (ks : List KindData) (fresh index : Index) (faults : List (Option CoreRefusal)) (empty : fresh ≡ empty_index) (why : faults ≡ faults_of ks fresh) where
  faults_new : faults ≡ faults_of ks empty_index
  faults_new = why ∙ ap (faults_of ks) empty

  pub new_put : (uid : List ℕ) (es new : Indexes) → index ≡ after_each ks fresh → new ≡ cond (list_any is_none faults) (with_index uid index es) es → new ≡ put_new uid ks es
  new_put uid es new after is =
      is
      ∙ ap₂ (λ (fs : List (Option CoreRefusal)) (i : Index). cond (list_any is_none fs) (with_index uid i es) es) faults_new (after ∙ ap (after_each ks) empty)

  pub fault_rows : (rows : List ℕ) → rows ≡ map fault_row faults → rows ≡ map fault_row (faults_of ks empty_index)
  fault_rows rows is = is ∙ ap (map fault_row) faults_new

pub need_of_new : (ks : List KindData) (fresh : Index) → fresh ≡ empty_index → batch_needed ks fresh ≡ batch_needed ks empty_index
need_of_new ks fresh empty = ap (batch_needed ks) empty
