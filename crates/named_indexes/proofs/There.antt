-- An index that is changed in its place among the others.
use Rattle.std.proofs.Common.{◌≡◌, ℕ, List, [], ◌∷◌, map, Option, None, Some, Result, Ok, Err, sym, ap, ◌∙◌}
use Rattle.std.specs.Prelude.{IfOk, OnOk, OnErr, unwrap_or}
use Rattle.std.specs.BTreeMap.{is_at}
use Rattle.std.specs.Cmp.Lexicographic.{slice_cmp, nat_list_cmp_total}
use Rattle.std.specs.List.{AllByRecursion}
use Rattle.std.specs.List.Sorted.{IsStrictlySortedBy}
use Rattle.std.specs.Map.{keys_of, set_value}
use Rattle.std.specs.Ordering.{nat_cmp}
use Rattle.std.proofs.lemmas.Map.Steps.{set_value_same}
use Rattle.document_changes.specs.Changes.{KindData}
use Rattle.index_changes.specs.Batches.{after_each, batch_needed, faults_of}
use Rattle.index_changes.specs.Index.{Index, empty_index}
use Rattle.named_indexes.specs.Indexes.{Indexes, index_at, index_or_empty, with_index}
use Rattle.named_indexes.specs.Inside.{after_kinds, rows_of_kinds, Fills, Empties, fault_row}
use Rattle.named_indexes.proofs.Batches.{Takes, rows_there, after_there, fills_takes, empties_takes}
use Rattle.named_indexes.proofs.Maps.{set_value-insert}

-- `es` are the indexes, `old` is the one of the uid, `new` stands there afterwards, and `result` tells whether the changes were made
module _ (uid : List ℕ) (ks : List KindData) (es : Indexes) (old new : Index) (up : IsStrictlySortedBy (slice_cmp nat_cmp) (keys_of es)) (at : index_at uid es ≡ Some old)
    (takes : AllByRecursion Takes ks) where
  pub there_applied : {A E : Type 0} (result : Result A E) → OnOk result (new ≡ after_each ks old)
      → OnOk result (set_value (is_at (slice_cmp nat_cmp uid)) es new ≡ after_kinds uid ks es)
  there_applied (Ok x) is =
      set_value-insert (slice_cmp nat_cmp) nat_list_cmp_total uid old new es up at
      ∙ ap (λ (i : Index). with_index uid i es) is ∙ sym (after_there uid ks old es takes up at)
  there_applied (Err e) is = tt

  pub there_stays : {A E : Type 0} (result : Result A E) → OnErr result (new ≡ old) → OnErr result (set_value (is_at (slice_cmp nat_cmp uid)) es new ≡ es)
  there_stays (Ok x) is = tt
  there_stays (Err e) is = ap (set_value (is_at (slice_cmp nat_cmp uid)) es) is ∙ set_value_same (is_at (slice_cmp nat_cmp uid)) es old at

  pub there_rows : {A E : Type 0} (rows : A → List ℕ) (result : Result A E) → IfOk result (λ x. rows x ≡ map fault_row (faults_of ks old))
      → IfOk result (λ x. rows x ≡ rows_of_kinds uid ks es)
  there_rows rows (Ok x) is = is ∙ sym (rows_there uid ks old es takes at)
  there_rows rows (Err e) is = tt

-- what they need
pub need_there : (uid : List ℕ) (ks : List KindData) (es : Indexes) (old : Index) → index_at uid es ≡ Some old
    → batch_needed ks (index_or_empty uid es) ≡ batch_needed ks old
need_there uid ks es old at = ap (λ (o : Option Index). batch_needed ks (unwrap_or o empty_index)) at

pub need_new : (uid : List ℕ) (ks : List KindData) (es : Indexes) → index_at uid es ≡ None
    → batch_needed ks (index_or_empty uid es) ≡ batch_needed ks empty_index
need_new uid ks es at = ap (λ (o : Option Index). batch_needed ks (unwrap_or o empty_index)) at

pub fill_takes : (ks : List KindData) → AllByRecursion Fills ks → AllByRecursion Takes ks
fill_takes [] all = tt
fill_takes (k ∷ ks) all = (fills_takes k all.0, fill_takes ks all.1)

pub empty_takes : (ks : List KindData) → AllByRecursion Empties ks → AllByRecursion Takes ks
empty_takes [] all = tt
empty_takes (k ∷ ks) all = (empties_takes k all.0, empty_takes ks all.1)
