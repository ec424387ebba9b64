-- The statuses of replies, and which of them come with a change.
use Rattle.std.proofs.Common.{◌≡◌, ◌≢◌, ◌⊎◌, ℕ, ◌+◌, List, length, Bool, true, false, not, ◌&&◌, Option, Some, None, Result, Ok, Err, refl, sym, ap, ◌∙◌, inl, inr, arith}
use Rattle.std.specs.Prelude.{◌==◌, nat_le}
use Rattle.std.proofs.lemmas.Bool.{eqb-true, false_from_ne_true}
use Rattle.serde_json.specs.Data.{Data}
use Rattle.document_changes.specs.Changes.{ChangeData}
use Rattle.change_payloads.specs.Spelling.{kind_byte}
use Rattle.http_wire.specs.Stream.{Request}
use Rattle.http_wire.specs.Reply.{Answer}
use Rattle.index_changes.specs.Index.{Index, documents as documents_in, document_under}
use Rattle.index_core.specs.FacetHits.{facet_found}
use Rattle.facet_counts.specs.declared.rows.CountRow.{CountRow}
use Rattle.search_settings.specs.declared.refusal.SearchRefusal.{SearchRefusal}
use Rattle.request_refusals.specs.declared.refusal.Refusal.{Refusal}
use Rattle.request_refusals.specs.declared.refusal.Refusal.TheVariants.{NoRoute, MethodNotAllowed, InvalidUid, Unknown, InvalidSearch, FilterSyntax, FilterTooDeep, FilterNotANumber, NotJson, NotList, NotObject, NumberNotWhole, BadListedId, MissingUid, BadSettings, BadRankingRule, BadQueries, MissingQueryUid, MissingFacetName, InvalidFacetName, InvalidFacetQuery, InvalidTaskUid, NoTask, NoIndex, NoDocument, ChangesSpent, NoSortRule, NotSortable, NotFilterable, NotFacet}
use Rattle.request_calls.specs.Refusals.{told_of}
use Rattle.search_base.specs.Trying.{◌>>=◌, ◌>>◌, or_refuse, refuse_if, refused_as}
use Rattle.request_calls.specs.Asked.{ReadData, health, task, indexes, index, documents, document, settings, search, multi, facets, CallData, write, read}
use Rattle.request_calls.specs.Calls.{call_of}
use Rattle.request_replies.specs.Replies as replies
use Rattle.task_queue.specs.Queue.{Shown, found as found_task}
use Rattle.queued_changes.specs.State.{accepted, tasks_of}
use Rattle.queued_changes.specs.Machine.{enqueued}
use Rattle.queued_changes.specs.Run.{Accepts, IsStep}
use Rattle.queued_changes.proofs.Runs.{accepted_counts}
use Rattle.named_indexes.specs.Indexes.{index_at}
use Rattle.named_indexes.specs.Changes.{changed}
use Rattle.search_routes.specs.State.{State, most_changes}
use Rattle.search_routes.specs.Machine.{Step, accepted_write, answer_to, facet_refusal, outcome, results_of, searched, slice, step, told, unless_refused}
use Rattle.search_routes.specs.Chosen.{answer_of, is_followed, stepped}
use Rattle.search_routes.specs.Laws.{IsCounted}

-- what is not refused: a change that is accepted with 202, or an answer with 200
abbrev IsGood : State → Result Step Refusal → Type 0
IsGood s (Ok t) = ((t.answer.status ≡ 202) × Accepts changed stepped s t.state) ⊎ ((t.answer.status ≡ 200) × (t.state ≡ s))
IsGood s (Err r) = Unit {0}

good_write : (s : State) (c : ChangeData) → IsGood s (accepted_write s c)
good_write s c = by (nat_le most_changes (accepted s))
  where
    by : (spent : Bool) → IsGood s (refuse_if spent ChangesSpent >> Ok (record {
      answer = replies.accepted c.uid (kind_byte c.kind) (accepted s);
      state = enqueued changed c.uid (kind_byte c.kind) c s;
    }))
    by true = tt
    by false = inl (refl, (c.uid, kind_byte c.kind, c, refl))

abbrev IsShown : Result Answer Refusal → Type 0
IsShown (Ok a) = a.status ≡ 200
IsShown (Err r) = Unit {0}

-- an answer from an index, if that is there
shown_of : (o : Option Index) (e : Refusal) (f : Index → Result Answer Refusal) → ((i : Index) → IsShown (f i)) → IsShown (or_refuse e o >>= f)
shown_of None e f each = tt
shown_of (Some i) e f each = each i

shown_document : (fields : List (List ℕ)) (o : Option Data) (e : Refusal) → IsShown (or_refuse e o >>= λ d. Ok (replies.one_document fields d))
shown_document fields None e = tt
shown_document fields (Some d) e = refl

shown_data : (r : Result Data Refusal) → IsShown (r >>= λ d. Ok (replies.answer 200 d))
shown_data (Ok d) = refl
shown_data (Err why) = tt

shown_results : (r : Result (List Data) Refusal) → IsShown (r >>= λ ds. Ok (replies.results ds))
shown_results (Ok ds) = refl
shown_results (Err why) = tt

shown_facets : (query : Option (List ℕ)) (r : Result (List CountRow) SearchRefusal) → IsShown (refused_as facet_refusal r >>= λ rows. Ok (replies.facet_hits query rows))
shown_facets query (Ok rows) = refl
shown_facets query (Err why) = tt

shown_task : (number : ℕ) (o : Option Shown) → IsShown (or_refuse (NoTask number) o >>= λ t. Ok (replies.task t))
shown_task number None = tt
shown_task number (Some t) = refl

shown_answer : (s : State) (c : ReadData) → IsShown (answer_to s c)
shown_answer s health = refl
shown_answer s (task number) = shown_task number (found_task number (tasks_of s))
shown_answer s (indexes offset limit) = refl
shown_answer s (index uid) = shown_of (index_at uid s.indexes) _ (λ i. Ok (replies.one_index uid i.key)) (λ i. refl)
shown_answer s (documents uid offset limit fields) =
    shown_of (index_at uid s.indexes) _ (λ i. Ok (replies.documents_listing offset limit fields (slice offset limit (documents_in i)) (length (documents_in i)))) (λ i. refl)
shown_answer s (document uid id fields) =
    shown_of (index_at uid s.indexes) _ (λ i. or_refuse (NoDocument id) (document_under id i.store.rows) >>= λ d. Ok (replies.one_document fields d))
    (λ i. shown_document fields (document_under id i.store.rows) (NoDocument id))
shown_answer s (settings uid) = shown_of (index_at uid s.indexes) _ (λ i. Ok (replies.settings i.settings)) (λ i. refl)
shown_answer s (search uid c) = shown_data (searched s.indexes uid c)
shown_answer s (multi calls) = shown_results (results_of s.indexes calls)
shown_answer s (facets uid c) =
    shown_of (index_at uid s.indexes) _ (λ i. refused_as facet_refusal (facet_found i c) >>= λ rows. Ok (replies.facet_hits c.query rows))
    (λ i. shown_facets c.query (facet_found i c))

good_answered : (s : State) (r : Result Answer Refusal) → IsShown r → IsGood s (r >>= λ a. Ok (told s a))
good_answered s (Ok a) is = inr (is, refl)
good_answered s (Err e) is = tt

good_outcome : (s : State) (c : CallData) → IsGood s (outcome s c)
good_outcome s (write change) = good_write s change
good_outcome s (read c) = good_answered s (answer_to s c) (shown_answer s c)

good_called : (s : State) (r : Result CallData Refusal) → IsGood s (r >>= outcome s)
good_called s (Ok c) = good_outcome s c
good_called s (Err e) = tt

abbrev IsRefusing : ℕ → Type 0
IsRefusing status = (status ≢ 202) × (status ≢ 503)

refusing : (r : Refusal) → IsRefusing (told_of r).status
refusing NoRoute = (λ e. absurd (omega (arith, e)), λ e. absurd (omega (arith, e)))
refusing MethodNotAllowed = (λ e. absurd (omega (arith, e)), λ e. absurd (omega (arith, e)))
refusing InvalidUid = (λ e. absurd (omega (arith, e)), λ e. absurd (omega (arith, e)))
refusing (Unknown name) = (λ e. absurd (omega (arith, e)), λ e. absurd (omega (arith, e)))
refusing (InvalidSearch m) = (λ e. absurd (omega (arith, e)), λ e. absurd (omega (arith, e)))
refusing (FilterSyntax text place) = (λ e. absurd (omega (arith, e)), λ e. absurd (omega (arith, e)))
refusing (FilterTooDeep text place) = (λ e. absurd (omega (arith, e)), λ e. absurd (omega (arith, e)))
refusing (FilterNotANumber value) = (λ e. absurd (omega (arith, e)), λ e. absurd (omega (arith, e)))
refusing NotJson = (λ e. absurd (omega (arith, e)), λ e. absurd (omega (arith, e)))
refusing NotList = (λ e. absurd (omega (arith, e)), λ e. absurd (omega (arith, e)))
refusing (NotObject k) = (λ e. absurd (omega (arith, e)), λ e. absurd (omega (arith, e)))
refusing (NumberNotWhole k path) = (λ e. absurd (omega (arith, e)), λ e. absurd (omega (arith, e)))
refusing (BadListedId k) = (λ e. absurd (omega (arith, e)), λ e. absurd (omega (arith, e)))
refusing MissingUid = (λ e. absurd (omega (arith, e)), λ e. absurd (omega (arith, e)))
refusing (BadSettings name) = (λ e. absurd (omega (arith, e)), λ e. absurd (omega (arith, e)))
refusing (BadRankingRule text) = (λ e. absurd (omega (arith, e)), λ e. absurd (omega (arith, e)))
refusing BadQueries = (λ e. absurd (omega (arith, e)), λ e. absurd (omega (arith, e)))
refusing (MissingQueryUid query) = (λ e. absurd (omega (arith, e)), λ e. absurd (omega (arith, e)))
refusing MissingFacetName = (λ e. absurd (omega (arith, e)), λ e. absurd (omega (arith, e)))
refusing InvalidFacetName = (λ e. absurd (omega (arith, e)), λ e. absurd (omega (arith, e)))
refusing InvalidFacetQuery = (λ e. absurd (omega (arith, e)), λ e. absurd (omega (arith, e)))
refusing (NoIndex uid) = (λ e. absurd (omega (arith, e)), λ e. absurd (omega (arith, e)))
refusing (NoDocument id) = (λ e. absurd (omega (arith, e)), λ e. absurd (omega (arith, e)))
refusing InvalidTaskUid = (λ e. absurd (omega (arith, e)), λ e. absurd (omega (arith, e)))
refusing (NoTask number) = (λ e. absurd (omega (arith, e)), λ e. absurd (omega (arith, e)))
refusing ChangesSpent = (λ e. absurd (omega (arith, e)), λ e. absurd (omega (arith, e)))
refusing NoSortRule = (λ e. absurd (omega (arith, e)), λ e. absurd (omega (arith, e)))
refusing (NotSortable attribute) = (λ e. absurd (omega (arith, e)), λ e. absurd (omega (arith, e)))
refusing (NotFilterable attribute) = (λ e. absurd (omega (arith, e)), λ e. absurd (omega (arith, e)))
refusing (NotFacet attribute) = (λ e. absurd (omega (arith, e)), λ e. absurd (omega (arith, e)))

accepted_once : (s new : State) → Accepts changed stepped s new → accepted new ≡ accepted s + 1
accepted_once s new (uid, kind, c, is) = ap accepted is ∙ accepted_counts changed uid kind c s

counted : (s : State) (r : Result Step Refusal) → IsGood s r → IsCounted s (unless_refused s r)
counted s (Err e) good = inr ((refusing e).0, refl)
counted s (Ok t) (inl (is, accepts)) = inl (is, accepted_once s t.state accepts)
counted s (Ok t) (inr (is, same)) = inr ((λ e. absurd (omega (arith, e, is))), same)

waits : (s : State) (r : Result Step Refusal) → IsGood s r
    → ((unless_refused s r).answer.status ≡ 202 → Accepts changed stepped s (unless_refused s r).state) × ((unless_refused s r).answer.status ≢ 202 → (unless_refused s r).state ≡ s)
waits s (Err e) good = (λ is. absurd ((refusing e).0 is), λ other. refl)
waits s (Ok t) (inl (is, accepts)) = (λ again. accepts, λ other. absurd (other is))
waits s (Ok t) (inr (is, same)) = (λ other. absurd (omega (arith, other, is)), λ other. same)

not_503 : (s : State) (r : Result Step Refusal) → IsGood s r → (unless_refused s r).answer.status ≢ 503
not_503 s (Err e) good = (refusing e).1
not_503 s (Ok t) (inl (is, accepts)) = λ e. absurd (omega (arith, e, is))
not_503 s (Ok t) (inr (is, same)) = λ e. absurd (omega (arith, e, is))

pub step_counted : (s : State) (q : Request) → IsCounted s (step s q)
unfolding step
step_counted s q = counted s (call_of q >>= outcome s) (good_called s (call_of q))

pub accepted_waits : IsStep changed stepped
unfolding step
accepted_waits s q = waits s (call_of q >>= outcome s) (good_called s (call_of q))

pub step_not_503 : (s : State) (q : Request) → (step s q).answer.status ≢ 503
unfolding step
step_not_503 s q = not_503 s (call_of q >>= outcome s) (good_called s (call_of q))

-- ---- what is followed by a batch

-- a reply of status 202, or the one for want of memory, is not, and any other is
pub follows : (s : State) (q : Request) (starved : Bool) (status : ℕ) → status ≡ (answer_of s q starved).status
    → (not (status == 202) && not (status == 503)) ≡ is_followed s q starved
follows s q true status is = rw is refl
follows s q false status is = by (status == 202) refl
  where
    other : (status == 503) ≡ false
    other = false_from_ne_true (status == 503) (λ e. step_not_503 s q (sym is ∙ eqb-true status 503 e))

    by : (w : Bool) → (status == 202) ≡ w → (not w && not (status == 503)) ≡ is_followed s q false
    by true at = rw (sym is, at) refl
    by false at = rw (sym is, at, other) refl
