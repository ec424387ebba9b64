-- What changes of one index leave, by what they leave of that index.
use Rattle.std.proofs.Common.{◌≡◌, ℕ, List, [], ◌∷◌, map, Bool, true, false, cond, Option, None, Some, is_none, Result, Ok, Err, refl, sym, ap, ap₂, ◌∙◌}
use Rattle.std.specs.Prelude.{◌&&◌, unwrap_or}
use Rattle.std.specs.Cmp.Lexicographic.{slice_cmp, nat_list_cmp_total}
use Rattle.std.specs.List.{AllByRecursion, list_any}
use Rattle.std.specs.List.Sorted.{IsStrictlySortedBy}
use Rattle.std.specs.Map.{keys_of}
use Rattle.std.specs.Ordering.{nat_cmp}
use Rattle.std.specs.Result.{result_err, result_unwrap_or}
use Rattle.search_base.specs.Trying.{◌>>=◌, ◌>>◌, refuse_if, or_refuse, refused_as}
use Rattle.document_changes.specs.Changes.{KindData, create, drop_index, replace, update, remove, clear, patch, reset}
use Rattle.index_changes.specs.Batches.{changed_by, after_each, faults_of}
use Rattle.index_changes.specs.Index.{Index, empty_index}
use Rattle.index_changes.specs.PlanView.{PlanView}
use Rattle.index_changes.specs.Plans.{planned, applied}
use Rattle.index_changes.specs.declared.refusal.CoreRefusal.{CoreRefusal}
use Rattle.queued_changes.specs.Machine.{left_in, row_in as row_done}
use Rattle.named_indexes.specs.Indexes.{Indexes, index_at, with_index, is_full}
use Rattle.named_indexes.specs.Changes.{row_in, index_after, filled, emptied, indexes_after}
use Rattle.named_indexes.specs.Inside.{after_kinds, rows_of_kinds, Fills, Empties, fault_row, plan_row, full_row}
use Rattle.named_indexes.proofs.Maps.{insert_same, insert_again, lookup_inserted}
use Rattle.named_indexes.proofs.Uids.{sorted_inserted}

abbrev Ordered : Indexes → Type 0
Ordered es = IsStrictlySortedBy (slice_cmp nat_cmp) (keys_of es)

-- what a change of an index leaves of all
abbrev put : List ℕ → Indexes → Result Index CoreRefusal → Result Indexes ℕ
put uid es r = refused_as row_in r >>= λ i. Ok (with_index uid i es)

-- a plan that is applied where there is room for the index
planned_whole : (i : Index) (r : Result PlanView CoreRefusal)
    → (refused_as row_in r >>= λ plan. refuse_if false 32 >> refused_as row_in (applied plan i)) ≡ refused_as row_in (r >>= λ plan. applied plan i)
planned_whole i (Ok plan) = refl
planned_whole i (Err why) = refl

-- ---- the index is there

filled_there : (uid : List ℕ) (k : KindData) (i : Index) (es : Indexes) → index_at uid es ≡ Some i → filled es uid k ≡ put uid es (changed_by k i)
filled_there uid k i es at =
    ap (λ (o : Option Index). index_after (is_none o && is_full es) (unwrap_or o empty_index) k >>= λ j. Ok (with_index uid j es)) at
    ∙ ap (λ (r : Result Index ℕ). r >>= λ j. Ok (with_index uid j es)) (planned_whole i (planned i k))

emptied_there : (uid : List ℕ) (k : KindData) (i : Index) (es : Indexes) → index_at uid es ≡ Some i → emptied es uid k ≡ put uid es (changed_by k i)
emptied_there uid k i es at =
    ap (λ (o : Option Index). or_refuse 23 o >>= λ old. index_after false old k >>= λ j. Ok (with_index uid j es)) at
    ∙ ap (λ (r : Result Index ℕ). r >>= λ j. Ok (with_index uid j es)) (planned_whole i (planned i k))

-- a change that an index takes
abbrev pub Takes : KindData → Type 0
Takes (create key) = ⊥
Takes drop_index = ⊥
Takes (replace given ds) = Unit {0}
Takes (update given ds) = Unit {0}
Takes (remove ids) = Unit {0}
Takes clear = Unit {0}
Takes (patch members) = Unit {0}
Takes reset = Unit {0}

one_there : (uid : List ℕ) (k : KindData) (i : Index) (es : Indexes) → Takes k → index_at uid es ≡ Some i → indexes_after es uid k ≡ put uid es (changed_by k i)
one_there uid (create key) i es takes at = absurd takes
one_there uid drop_index i es takes at = absurd takes
one_there uid (replace given ds) i es takes at = filled_there uid (replace given ds) i es at
one_there uid (update given ds) i es takes at = filled_there uid (update given ds) i es at
one_there uid (remove ids) i es takes at = emptied_there uid (remove ids) i es at
one_there uid clear i es takes at = emptied_there uid clear i es at
one_there uid (patch members) i es takes at = filled_there uid (patch members) i es at
one_there uid reset i es takes at = emptied_there uid reset i es at

put_row : (uid : List ℕ) (es : Indexes) (r : Result Index CoreRefusal) → row_done (put uid es r) ≡ fault_row (result_err r)
put_row uid es (Ok i) = refl
put_row uid es (Err why) = refl

pub rows_there : (uid : List ℕ) (ks : List KindData) (i : Index) (es : Indexes) → AllByRecursion Takes ks → index_at uid es ≡ Some i
    → rows_of_kinds uid ks es ≡ map fault_row (faults_of ks i)
rows_there uid [] i es all at = refl
rows_there uid (k ∷ ks) i es all at =
    ap (λ (r : Result Indexes ℕ). row_done r ∷ rows_of_kinds uid ks (left_in r es)) (one_there uid k i es all.0 at)
    ∙ by (λ (j : Index) (fs : Indexes) (there : index_at uid fs ≡ Some j). rows_there uid ks j fs all.1 there) (changed_by k i)
  where
    by : ((j : Index) (fs : Indexes) → index_at uid fs ≡ Some j → rows_of_kinds uid ks fs ≡ map fault_row (faults_of ks j)) → (r : Result Index CoreRefusal)
        → (row_done (put uid es r) ∷ rows_of_kinds uid ks (left_in (put uid es r) es)) ≡ (fault_row (result_err r) ∷ map fault_row (faults_of ks (result_unwrap_or r i)))
    by again (Ok j) = ap (λ (rows : List ℕ). 0 ∷ rows) (again j (with_index uid j es) (lookup_inserted (slice_cmp nat_cmp) nat_list_cmp_total uid j es))
    by again (Err why) = ap (λ (rows : List ℕ). row_in why ∷ rows) (again i es at)

pub after_there : (uid : List ℕ) (ks : List KindData) (i : Index) (es : Indexes) → AllByRecursion Takes ks → Ordered es → index_at uid es ≡ Some i
    → after_kinds uid ks es ≡ with_index uid (after_each ks i) es
after_there uid [] i es all up at = sym (insert_same (slice_cmp nat_cmp) nat_list_cmp_total uid i es up at)
after_there uid (k ∷ ks) i es all up at =
    ap (λ (r : Result Indexes ℕ). after_kinds uid ks (left_in r es)) (one_there uid k i es all.0 at)
    ∙ by (λ (j : Index) (fs : Indexes) (ordered : Ordered fs) (there : index_at uid fs ≡ Some j). after_there uid ks j fs all.1 ordered there) (changed_by k i)
  where
    by : ((j : Index) (fs : Indexes) → Ordered fs → index_at uid fs ≡ Some j → after_kinds uid ks fs ≡ with_index uid (after_each ks j) fs) → (r : Result Index CoreRefusal)
        → after_kinds uid ks (left_in (put uid es r) es) ≡ with_index uid (after_each ks (result_unwrap_or r i)) es
    by again (Ok j) =
        again j (with_index uid j es) (sorted_inserted (slice_cmp nat_cmp) nat_list_cmp_total uid j es up)
        (lookup_inserted (slice_cmp nat_cmp) nat_list_cmp_total uid j es)
        ∙ insert_again (slice_cmp nat_cmp) nat_list_cmp_total uid j (after_each ks j) es
    by again (Err why) = again i es up at

-- ---- it is not there, and may be made

one_new : (uid : List ℕ) (k : KindData) (es : Indexes) → Fills k → index_at uid es ≡ None → is_full es ≡ false → indexes_after es uid k ≡ put uid es (changed_by k empty_index)
one_new uid k es fills none room = by k fills
  where
    new : (k : KindData) → filled es uid k ≡ put uid es (changed_by k empty_index)
    new k =
        ap₂ (λ (o : Option Index) (full : Bool). index_after (is_none o && full) (unwrap_or o empty_index) k >>= λ j. Ok (with_index uid j es)) none room
        ∙ ap (λ (r : Result Index ℕ). r >>= λ j. Ok (with_index uid j es)) (planned_whole empty_index (planned empty_index k))

    by : (k : KindData) → Fills k → indexes_after es uid k ≡ put uid es (changed_by k empty_index)
    by (create key) fills = absurd fills
    by drop_index fills = absurd fills
    by (replace given ds) fills = new (replace given ds)
    by (update given ds) fills = new (update given ds)
    by (remove ids) fills = absurd fills
    by clear fills = absurd fills
    by (patch members) fills = new (patch members)
    by reset fills = absurd fills

pub fills_takes : (k : KindData) → Fills k → Takes k
fills_takes (create key) fills = fills
fills_takes drop_index fills = fills
fills_takes (replace given ds) fills = tt
fills_takes (update given ds) fills = tt
fills_takes (remove ids) fills = tt
fills_takes clear fills = tt
fills_takes (patch members) fills = tt
fills_takes reset fills = tt

all_take : (ks : List KindData) → AllByRecursion Fills ks → AllByRecursion Takes ks
all_take [] all = tt
all_take (k ∷ ks) all = (fills_takes k all.0, all_take ks all.1)

pub rows_new : (uid : List ℕ) (ks : List KindData) (es : Indexes) → AllByRecursion Fills ks → index_at uid es ≡ None → is_full es ≡ false
    → rows_of_kinds uid ks es ≡ map fault_row (faults_of ks empty_index)
rows_new uid [] es all none room = refl
rows_new uid (k ∷ ks) es all none room =
    ap (λ (r : Result Indexes ℕ). row_done r ∷ rows_of_kinds uid ks (left_in r es)) (one_new uid k es all.0 none room) ∙ by (rows_new uid ks es all.1 none room) (changed_by k empty_index)
  where
    by : rows_of_kinds uid ks es ≡ map fault_row (faults_of ks empty_index) → (r : Result Index CoreRefusal) → (row_done (put uid es r) ∷ rows_of_kinds uid ks (left_in (put uid es r) es))
        ≡ (fault_row (result_err r) ∷ map fault_row (faults_of ks (result_unwrap_or r empty_index)))
    by rest (Ok j) =
        ap (λ (rows : List ℕ). 0 ∷ rows)
        (rows_there uid ks j (with_index uid j es) (all_take ks all.1) (lookup_inserted (slice_cmp nat_cmp) nat_list_cmp_total uid j es))
    by rest (Err why) = ap (λ (rows : List ℕ). row_in why ∷ rows) rest

-- the index is put in where one change at least was made
pub after_new : (uid : List ℕ) (ks : List KindData) (es : Indexes) → AllByRecursion Fills ks → Ordered es → index_at uid es ≡ None → is_full es ≡ false
    → after_kinds uid ks es ≡ cond (list_any is_none (faults_of ks empty_index)) (with_index uid (after_each ks empty_index) es) es
after_new uid [] es all up none room = refl
after_new uid (k ∷ ks) es all up none room =
    ap (λ (r : Result Indexes ℕ). after_kinds uid ks (left_in r es)) (one_new uid k es all.0 none room) ∙ by (after_new uid ks es all.1 up none room) (changed_by k empty_index)
  where
    by : after_kinds uid ks es ≡ cond (list_any is_none (faults_of ks empty_index)) (with_index uid (after_each ks empty_index) es) es → (r : Result Index CoreRefusal)
        → after_kinds uid ks (left_in (put uid es r) es)
        ≡ cond (list_any is_none (result_err r ∷ faults_of ks (result_unwrap_or r empty_index))) (with_index uid (after_each ks (result_unwrap_or r empty_index)) es) es
    by rest (Ok j) =
        after_there uid ks j (with_index uid j es) (all_take ks all.1) (sorted_inserted (slice_cmp nat_cmp) nat_list_cmp_total uid j es up)
        (lookup_inserted (slice_cmp nat_cmp) nat_list_cmp_total uid j es)
        ∙ insert_again (slice_cmp nat_cmp) nat_list_cmp_total uid j (after_each ks j) es
    by rest (Err why) = rest

-- ---- it is not there, and there are as many as there may be

plan_refused : (i : Index) (r : Result PlanView CoreRefusal)
    → (refused_as row_in r >>= λ plan. refuse_if true 32 >> refused_as row_in (applied plan i)) ≡ Err (plan_row r)
plan_refused i (Ok plan) = refl
plan_refused i (Err why) = refl

one_full : (uid : List ℕ) (k : KindData) (es : Indexes) → Fills k → index_at uid es ≡ None → is_full es ≡ true → indexes_after es uid k ≡ Err (full_row k)
one_full uid k es fills none full = by k fills
  where
    all : (k : KindData) → filled es uid k ≡ Err (full_row k)
    all k =
        ap₂ (λ (o : Option Index) (full : Bool). index_after (is_none o && full) (unwrap_or o empty_index) k >>= λ j. Ok (with_index uid j es)) none full
        ∙ ap (λ (r : Result Index ℕ). r >>= λ j. Ok (with_index uid j es)) (plan_refused empty_index (planned empty_index k))

    by : (k : KindData) → Fills k → indexes_after es uid k ≡ Err (full_row k)
    by (create key) fills = absurd fills
    by drop_index fills = absurd fills
    by (replace given ds) fills = all (replace given ds)
    by (update given ds) fills = all (update given ds)
    by (remove ids) fills = absurd fills
    by clear fills = absurd fills
    by (patch members) fills = all (patch members)
    by reset fills = absurd fills

pub rows_full : (uid : List ℕ) (ks : List KindData) (es : Indexes) → AllByRecursion Fills ks → index_at uid es ≡ None → is_full es ≡ true
    → rows_of_kinds uid ks es ≡ map full_row ks
rows_full uid [] es all none full = refl
rows_full uid (k ∷ ks) es all none full =
    ap (λ (r : Result Indexes ℕ). row_done r ∷ rows_of_kinds uid ks (left_in r es)) (one_full uid k es all.0 none full)
    ∙ ap (λ (rows : List ℕ). full_row k ∷ rows) (rows_full uid ks es all.1 none full)

pub after_full : (uid : List ℕ) (ks : List KindData) (es : Indexes) → AllByRecursion Fills ks → index_at uid es ≡ None → is_full es ≡ true
    → after_kinds uid ks es ≡ es
after_full uid [] es all none full = refl
after_full uid (k ∷ ks) es all none full =
    ap (λ (r : Result Indexes ℕ). after_kinds uid ks (left_in r es)) (one_full uid k es all.0 none full) ∙ after_full uid ks es all.1 none full

-- ---- it is not there, and none makes it

one_none : (uid : List ℕ) (k : KindData) (es : Indexes) → Empties k → index_at uid es ≡ None → indexes_after es uid k ≡ Err 23
one_none uid k es empties none = by k empties
  where
    all : (k : KindData) → emptied es uid k ≡ Err 23
    all k = ap (λ (o : Option Index). or_refuse 23 o >>= λ old. index_after false old k >>= λ j. Ok (with_index uid j es)) none

    by : (k : KindData) → Empties k → indexes_after es uid k ≡ Err 23
    by (create key) empties = absurd empties
    by drop_index empties = absurd empties
    by (replace given ds) empties = absurd empties
    by (update given ds) empties = absurd empties
    by (remove ids) empties = all (remove ids)
    by clear empties = all clear
    by (patch members) empties = absurd empties
    by reset empties = all reset

pub rows_none : (uid : List ℕ) (ks : List KindData) (es : Indexes) → AllByRecursion Empties ks → index_at uid es ≡ None → rows_of_kinds uid ks es ≡ map (λ k. 23) ks
rows_none uid [] es all none = refl
rows_none uid (k ∷ ks) es all none =
    ap (λ (r : Result Indexes ℕ). row_done r ∷ rows_of_kinds uid ks (left_in r es)) (one_none uid k es all.0 none)
    ∙ ap (λ (rows : List ℕ). 23 ∷ rows) (rows_none uid ks es all.1 none)

pub after_none : (uid : List ℕ) (ks : List KindData) (es : Indexes) → AllByRecursion Empties ks → index_at uid es ≡ None → after_kinds uid ks es ≡ es
after_none uid [] es all none = refl
after_none uid (k ∷ ks) es all none =
    ap (λ (r : Result Indexes ℕ). after_kinds uid ks (left_in r es)) (one_none uid k es all.0 none) ∙ after_none uid ks es all.1 none

pub empties_takes : (k : KindData) → Empties k → Takes k
empties_takes (create key) empties = empties
empties_takes drop_index empties = empties
empties_takes (replace given ds) empties = tt
empties_takes (update given ds) empties = tt
empties_takes (remove ids) empties = tt
empties_takes clear empties = tt
empties_takes (patch members) empties = tt
empties_takes reset empties = tt
