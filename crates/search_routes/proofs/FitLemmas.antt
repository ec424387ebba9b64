-- What holds of each machine stays so while tasks wait and run.
use Rattle.std.proofs.Common.{◌≡◌, ℕ, suc, zero, ◌-◌, ◌<◌, ◌≤◌, Bool, true, false, List, [], ◌∷◌, ◌++◌, length, drop, Result, Ok, Err, refl, sym, subst, arith}
use Rattle.std.specs.Prelude.{IfErr, OnErr, OnOk, nat_le, if◌then◌else◌}
use Rattle.std.specs.List.{AllByRecursion}
use Rattle.std.proofs.lemmas.Bool.{and_parts}
use Rattle.document_changes.specs.Changes.{KindData, create, drop_index, replace, update, remove, clear, patch, reset, ChangeData}
use Rattle.doc_values.specs.Ids.{is_uid}
use Rattle.change_payloads.specs.Spelling.{kind_byte}
use Rattle.search_base.specs.declared.outcome.OutcomeRow.{OutcomeRow}
use Rattle.index_image.specs.Outcomes.{IsOutcome, is_row}
use Rattle.request_refusals.specs.Tasks.{row_of}
use Rattle.request_refusals.specs.declared.tasks.TaskRefusal.{TaskRefusal}
use Rattle.request_refusals.specs.declared.tasks.TaskRefusal.TheVariants as task
use Rattle.task_queue.specs.declared.task.Task.{Task}
use Rattle.task_queue.specs.Queue.{batch_len, most_outcomes, most_queued}
use Rattle.queued_changes.specs.Machine.{make_room, noted, row_in, run, run_first, settle}
use Rattle.queued_changes.proofs.Runs.{settled_counts}
use Rattle.named_indexes.specs.Changes.{changed}
use Rattle.named_indexes.specs.Indexes.{Indexes}
use Rattle.named_indexes.specs.Numbers.{refused_by}
use Rattle.named_indexes.specs.Payloads.{is_good_kind}
use Rattle.search_routes.specs.State.{State}
use Rattle.search_routes.specs.Good.{IsFit, MayWait}

-- ---- what became of one task

some_kind : (kind : KindData) → 0 < kind_byte kind
some_kind (create key) = omega arith
some_kind drop_index = omega arith
some_kind (replace key ds) = omega arith
some_kind (update key ds) = omega arith
some_kind (remove ids) = omega arith
some_kind clear = omega arith
some_kind (patch members) = omega arith
some_kind reset = omega arith

known_kind : (kind : KindData) → kind_byte kind ≤ 8
known_kind (create key) = omega arith
known_kind drop_index = omega arith
known_kind (replace key ds) = omega arith
known_kind (update key ds) = omega arith
known_kind (remove ids) = omega arith
known_kind clear = omega arith
known_kind (patch members) = omega arith
known_kind reset = omega arith

-- an image has the numbers of the refusals of tasks
each_row : (why : TaskRefusal) → is_row (row_of why) ≡ true
each_row task.NoIndex = refl
each_row task.IndexExists = refl
each_row task.KeyDiffers = refl
each_row task.NoCandidate = refl
each_row task.SeveralCandidates = refl
each_row task.MissingId = refl
each_row task.BadId = refl
each_row task.IndexesSpent = refl
each_row task.IdsSpent = refl
each_row task.PathsSpent = refl

-- and the 0 of a task that succeeded
told_row : {I : Type 0} (done : Result I ℕ) → IfErr done (λ row. is_row row ≡ true) → is_row (row_in done) ≡ true
told_row (Ok new) is = refl
told_row (Err row) is = is

abbrev outcome_of : Task ChangeData → Indexes → OutcomeRow
outcome_of t es = record { uid = t.uid; kind = t.kind; row = row_in (changed t.uid t.change es) }

outcome_fits : (t : Task ChangeData) (es : Indexes) → MayWait t → IsOutcome (outcome_of t es)
outcome_fits t es is = record {
  some_kind = subst (λ (kind : ℕ). 0 < kind) (sym is.kind_is) (some_kind t.change.kind);
  known_kind = subst (λ (kind : ℕ). kind ≤ 8) (sym is.kind_is) (known_kind t.change.kind);
  uid = subst (λ (uid : List ℕ). is_uid uid ≡ true) is.uid_is (and_parts (is_uid t.change.uid) (is_good_kind t.change.kind) is.good).0;
  row = told_row (changed t.uid t.change es) (refused_by (λ row. is_row row ≡ true) each_row t.uid t.kind t.change es is);
}

-- ---- those that are kept

all_behind : {A : Type 0} (P : A → Type 0) (xs : List A) (x : A) → AllByRecursion P xs → P x → AllByRecursion P (xs ++ x ∷ [])
all_behind P [] x all is = (is, tt)
all_behind P (y ∷ ys) x all is = (all.0, all_behind P ys x all.1 is)

all_dropped : {A : Type 0} (P : A → Type 0) (n : ℕ) (xs : List A) → AllByRecursion P xs → AllByRecursion P (drop n xs)
all_dropped P zero xs all = all
all_dropped P (suc n) [] all = tt
all_dropped P (suc n) (x ∷ xs) all = all_dropped P n xs all.1

noted_fits : (t : Task ChangeData) (es : Indexes) (outcomes : List OutcomeRow) → MayWait t → AllByRecursion IsOutcome outcomes
    → AllByRecursion IsOutcome (noted t.uid t.kind (row_in (changed t.uid t.change es)) outcomes)
noted_fits t es outcomes is all =
    let more = outcomes ++ outcome_of t es ∷ [] in
    all_dropped IsOutcome (length more - most_outcomes) more (all_behind IsOutcome outcomes (outcome_of t es) all (outcome_fits t es is))

-- ---- tasks that run

abbrev AreKept : State → Type 0
AreKept s = AllByRecursion IsOutcome s.outcomes × AllByRecursion MayWait s.queue

first_kept : (n : ℕ) (ts : List (Task ChangeData)) (s : State) → AllByRecursion MayWait ts → AreKept s → AreKept (run_first changed n ts s)
first_kept zero ts s all kept = kept
first_kept (suc n) [] s all kept = kept
first_kept (suc n) (t ∷ ts) s all kept = first_kept n ts (run changed t ts s) all.1 (noted_fits t s.indexes s.outcomes all.0 kept.0, all.1)

settled_fits : (s : State) → IsFit s → IsFit (settle changed s)
settled_fits s is =
    let kept = first_kept (batch_len s.queue) s.queue s is.accepts (is.outcomes, is.accepts) in
    record { fit = omega (arith, is.fit, settled_counts changed s); accepts = kept.1; outcomes = kept.0 }

room_fits : (s : State) → IsFit s → IsFit (make_room changed s)
room_fits s is = by_case (nat_le most_queued (length s.queue))
  where
    by_case : (b : Bool) → IsFit (if b then settle changed s else s)
    by_case true = settled_fits s is
    by_case false = is

-- ---- what the code does

-- a step was made, or all is as it was
either_fits : {A E : Type 0} (done : Result A E) (old made new : State) → OnOk done (new ≡ made) → OnErr done (new ≡ old) → IsFit old → IsFit made → IsFit new
either_fits (Ok x) old made new is stays before after = subst IsFit (sym is) after
either_fits (Err e) old made new is stays before after = subst IsFit (sym stays) before

pub after_settling : {A E : Type 0} (done : Result A E) (old new : State) → OnOk done (new ≡ settle changed old) → OnErr done (new ≡ old) → IsFit old → IsFit new
after_settling done old new is stays fit = either_fits done old (settle changed old) new is stays fit (settled_fits old fit)

pub after_making_room : {A E : Type 0} (done : Result A E) (old new : State) → OnOk done (new ≡ make_room changed old) → OnErr done (new ≡ old) → IsFit old → IsFit new
after_making_room done old new is stays fit = either_fits done old (make_room changed old) new is stays fit (room_fits old fit)
