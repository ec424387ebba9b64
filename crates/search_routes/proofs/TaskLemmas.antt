-- Changes that are accepted as tasks, and the payloads from which their tasks are read again.
use Rattle.std.proofs.Common.{◌≡◌, ℕ, suc, zero, ◌+◌, ◌<◌, ◌≤◌, List, [], ◌∷◌, length, true, false, Option, Some, None, Result, Ok, Err, refl, sym, ap, subst, ◌∙◌, arith}
use Rattle.std.specs.Prelude.{nat_lt}
use Rattle.std.specs.List.{AllByRecursion}
use Rattle.std.proofs.lemmas.Bool.{lt-ltb, lt-leb, le-leb}
use Rattle.document_changes.specs.Changes.{KindData, create, drop_index, replace, update, remove, clear, patch, reset, ChangeData}
use Rattle.change_payloads.specs.Change.{Spot}
use Rattle.change_payloads.specs.Spelling.{HasText, kind_byte}
use Rattle.change_payloads.specs.Answers.{Decodes}
use Rattle.change_payloads.specs.declared.fault.ImageFault.{ImageFault}
use Rattle.change_payloads.specs.declared.fault.ImageFault.TheVariants.{Damaged, NoMemory}
use Rattle.http_wire.specs.Sent.{IsSentAs}
use Rattle.http_wire.specs.declared.reply.Reply.{Reply}
use Rattle.search_base.specs.declared.fault.Fault.{Fault}
use Rattle.search_base.specs.declared.fault.Fault.TheVariants as fault
use Rattle.search_base.specs.Trying.{◌>>=◌}
use Rattle.request_refusals.specs.declared.refusal.Refusal.{Refusal}
use Rattle.request_refusals.specs.declared.refusal.Refusal.TheVariants.{ChangesSpent}
use Rattle.request_replies.specs.Replies as replies
use Rattle.request_calls.specs.Asked.{write}
use Rattle.request_calls.specs.Calls.{IsKey, IsAcceptedKind, IsAccepted}
use Rattle.request_calls.specs.Refusals.{refused}
use Rattle.task_queue.specs.declared.task.Task.{Task}
use Rattle.task_queue.specs.Queue.{AreNumbered}
use Rattle.queued_changes.specs.State.{accepted}
use Rattle.queued_changes.specs.Machine.{behind, make_room, run, run_first, run_out}
use Rattle.queued_changes.proofs.Runs.{behind_out, room_out}
use Rattle.named_indexes.specs.Changes.{changed}
use Rattle.named_indexes.specs.Payloads.{Accepts, IsRecordable, Records, first_byte, is_good, is_good_kind, is_key, recorded_in}
use Rattle.named_indexes.proofs.Recording.{good_recorded}
use Rattle.search_routes.specs.State.{State, most_changes}
use Rattle.search_routes.specs.Machine.{Step, numbered, performed, told}
use Rattle.search_routes.specs.Needs.{change_need, room_need}
use Rattle.search_routes.specs.Done.{Answers, IsPrepared, Leaves, Prepares}
use Rattle.search_routes.specs.Redo.{IsReadAgain, ReadsTask, redone, task_again}
use Rattle.search_routes.specs.declared.tasks.PreparedTask.{PreparedTask}

-- ---- what is accepted can be recorded

key_good : (key : Option (List ℕ)) → IsKey key → is_key key ≡ true
key_good None is = refl
key_good (Some text) is = lt-ltb 0 (length text) is

good_kind : (kind : KindData) → IsAcceptedKind kind → is_good_kind kind ≡ true
good_kind (create key) is = key_good key is
good_kind drop_index is = refl
good_kind (replace key ds) is = key_good key is
good_kind (update key ds) is = key_good key is
good_kind (remove ids) is = refl
good_kind clear is = refl
good_kind (patch members) is = rw is.accepted refl
good_kind reset is = refl

accepted_good : (c : ChangeData) → IsAccepted c → is_good c ≡ true
accepted_good c is = rw (is.uid, good_kind c.kind is.kind) refl

text_of_kind : (kind : KindData) → IsAcceptedKind kind → HasText kind
text_of_kind (create key) is = tt
text_of_kind drop_index is = tt
text_of_kind (replace key ds) is = tt
text_of_kind (update key ds) is = tt
text_of_kind (remove ids) is = tt
text_of_kind clear is = tt
text_of_kind (patch members) is = (is.whole, is.shallow)
text_of_kind reset is = tt

pub recordable : (c : ChangeData) → IsAccepted c → IsRecordable c
recordable c is = record { good = accepted_good c is; text = text_of_kind c.kind is.kind }

-- ---- a task and its change

abbrev task_with : ℕ → List ℕ → ℕ → ChangeData → Task ChangeData
task_with number uid kind change = record { number = number; uid = uid; kind = kind; change = change }

-- the task of a change that was recorded
pub numbered_is : (number : ℕ) (uid : List ℕ) (kind : ℕ) (payload c : ChangeData) → payload ≡ c → Accepts uid kind payload → task_with number uid kind payload ≡ numbered number c
numbered_is number uid kind payload c same is =
    ap (λ (u : List ℕ). task_with number u kind payload) (sym is.uid_is) ∙ ap (λ (k : ℕ). task_with number payload.uid k payload) is.kind_is ∙ ap (numbered number) same

pub accepts_numbered : (number : ℕ) (t : Task ChangeData) (c : ChangeData) → t ≡ numbered number c → is_good c ≡ true → Accepts t.uid t.kind t.change
accepts_numbered number t c is good =
    subst (λ (u : Task ChangeData). Accepts u.uid u.kind u.change) (sym is) (record { uid_is = refl; kind_is = refl; good = good })

-- ---- a task is read again

pub read_again : (number : ℕ) (bytes : List ℕ) (c : ChangeData) → recorded_in bytes ≡ Ok c → number < most_changes → task_again number bytes ≡ Ok (numbered number c)
read_again number bytes c is room = rw (is, lt-ltb number most_changes room) refl

pub past_the_limit : (number : ℕ) (bytes : List ℕ) (c : ChangeData) → recorded_in bytes ≡ Ok c → nat_lt number most_changes ≡ false → task_again number bytes ≡ Err (first_byte bytes)
past_the_limit number bytes c is spent = rw (is, spent) refl

pub none_again : {X : Type 0} (view : X → ChangeData) (number : ℕ) (bytes : List ℕ) (why : ImageFault) → Decodes view (Err why) (recorded_in bytes) → ReadsTask (Err why) (task_again number bytes)
none_again view number bytes NoMemory is = tt
none_again view number bytes (Damaged place found) is = rw is refl

task_read : (t : Task ChangeData) → Accepts t.uid t.kind t.change → t.number < most_changes → IsReadAgain t
task_read t is room bytes records =
    read_again t.number bytes t.change (good_recorded bytes t.change records.spells is.good) room
    ∙ ap Ok (sym (numbered_is t.number t.uid t.kind t.change t.change refl is))

pub tasks_read : (from : ℕ) (ts : List (Task ChangeData)) → AreNumbered from ts → AllByRecursion (λ t. Accepts t.uid t.kind t.change) ts → from + length ts ≤ most_changes → AllByRecursion IsReadAgain ts
tasks_read from [] numbers accept fit = tt
tasks_read from (t ∷ ts) numbers accept fit =
    (task_read t accept.0 (omega (arith, numbers.0, fit)), tasks_read (from + 1) ts numbers.1 accept.1 (omega (arith, fit)))

-- ---- a task is prepared, and waits

-- no task was made
pub unmade : (s : State) (c : ChangeData) (why : Fault Refusal) (reply : Reply) → Prepares (accepted s) c (Err why) → Answers (Err why) reply
    → Leaves s (performed s (write c)) reply s
unmade s c fault.NoMemory reply none same = (true, rw same (record { status = refl; body = refl; each = λ closes. refl }), refl)
unmade s c (fault.Refused r) reply (is, spent) (true, sent) = (true, sent, refl)
unmade s c (fault.Refused r) reply (is, spent) (false, sent) =
    let refuses : performed s (write c) ≡ told s (refused ChangesSpent) = rw (le-leb most_changes (accepted s) spent) refl in
    subst (λ (t : Step). Leaves s t reply s) (sym refuses) (false, subst (λ (why : Refusal). IsSentAs reply (refused why)) is sent, refl)

-- the step of a change whose task this is
abbrev pub taken : State → ChangeData → Task ChangeData → Step
taken s c t = record { answer = replies.accepted c.uid (kind_byte c.kind) (accepted s); state = behind t (make_room changed s) }

pub accepted_step : (s : State) (c : ChangeData) (prepared : PreparedTask) → IsPrepared (accepted s) c prepared → performed s (write c) ≡ taken s c prepared.task
accepted_step s c prepared is =
    let takes : performed s (write c) ≡ taken s c (numbered (accepted s) c) = rw (lt-leb most_changes (accepted s) is.room) refl in
    takes ∙ ap (taken s c) (sym is.task)

pub accepted_made : (s : State) (c : ChangeData) (prepared : PreparedTask) (reply : Reply) (room new : State) → IsPrepared (accepted s) c prepared
    → reply ≡ prepared.reply → room ≡ make_room changed s → new ≡ behind prepared.task room → Leaves s (performed s (write c)) reply new
accepted_made s c prepared reply room new is same made waits =
    subst (λ (t : Step). Leaves s t reply new) (sym (accepted_step s c prepared is)) (false, rw same is.reply, waits ∙ ap (behind prepared.task) made)

first_counts : (n : ℕ) (ts : List (Task ChangeData)) (s : State) → s.queue ≡ ts → accepted (run_first changed n ts s) ≡ accepted s
first_counts zero ts s e = refl
first_counts (suc n) [] s e = refl
first_counts (suc n) (t ∷ ts) s e = first_counts n ts (run changed t ts s) refl ∙ omega (arith, ap length e)

-- no task is lost or counted twice
pub out_counts : (s : State) → accepted (run_out changed s) ≡ accepted s
out_counts s = first_counts (length s.queue) s.queue s refl

-- a change whose task was prepared, once its payload is read again, runs as that task
pub accepted_redone : (s : State) (c : ChangeData) (prepared : PreparedTask) (bytes : List ℕ) → IsPrepared (accepted s) c prepared → Records prepared.task.change bytes
    → redone (run_out changed s) bytes ≡ Ok (run_out changed (behind prepared.task (make_room changed s)))
unfolding redone
accepted_redone s c prepared bytes is records =
    let t = prepared.task in
    let number : t.number ≡ accepted s = ap (λ (u : Task ChangeData). u.number) is.task in
    let again : task_again t.number bytes ≡ Ok t = task_read t is.accepts (subst (λ (n : ℕ). n < most_changes) (sym number) is.room) bytes records in
    let same : task_again (accepted (run_out changed s)) bytes ≡ Ok t = ap (λ (n : ℕ). task_again n bytes) (out_counts s ∙ sym number) ∙ again in
    ap (λ (r : Result (Task ChangeData) Spot). r >>= λ u. Ok (run changed u [] (run_out changed s))) same
    ∙ ap Ok (sym (behind_out changed t (make_room changed s) ∙ ap (run changed t []) (room_out changed s)))

-- below the limit a change needs what making room needs
pub need_of_room : (s : State) → accepted s < most_changes → change_need s ≡ room_need s
need_of_room s room = rw (lt-leb most_changes (accepted s) room) refl
