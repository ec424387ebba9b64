-- Several searches of indexes.
use Rattle.std.proofs.Common.{◌≡◌, ℕ, zero, suc, ◌+◌, ◌≤◌, List, [], ◌∷◌, map, take, Bool, false, Option, Some, None, Result, Ok, Err, is_ok, refl, sym, ap, ap₂, subst, ◌∙◌}
use Rattle.std.specs.List.{slice_get}
use Rattle.search_base.specs.Gives.{Gives, Fails}
use Rattle.search_base.specs.declared.fault.Fault.{Fault}
use Rattle.search_base.specs.declared.fault.Fault.TheVariants as fault
use Rattle.bucket_sort.specs.Opens.{Opens, is_starved}
use Rattle.multi_search.specs.declared.one.OneFault.{OneFault}
use Rattle.multi_search.specs.declared.one.OneFault.TheVariants as one
use Rattle.multi_search.specs.declared.multi.MultiFault.{MultiFault}
use Rattle.multi_search.specs.declared.multi.MultiFault.TheVariants as multi
use Rattle.multi_search.specs.Outcomes.{Agrees, AreAnswers, IsRefusal, Chain, RanUntil}
use Rattle.serde_json.specs.Data.{Data}
use Rattle.serde_json.specs.Written.{compact_text}
use Rattle.search_base.specs.Trying.{◌>>=◌, ◌>>◌, or_refuse, refused_as}
use Rattle.bucket_sort.specs.declared.log.Opening.{Opening}
use Rattle.search_call.specs.SearchView.{SearchView}
use Rattle.search_settings.specs.declared.refusal.SearchRefusal.{SearchRefusal}
use Rattle.search_settings.specs.SearchFaults.{search_fault}
use Rattle.index_changes.specs.Index.{Index}
use Rattle.search_result.specs.View.{Found}
use Rattle.index_core.specs.Found.{found, found_in}
use Rattle.index_core.specs.Terms.{terms_in}
use Rattle.index_core.specs.Fetches.{documents_needed}
use Rattle.index_core.specs.Looked.{unless_refused}
use Rattle.index_core.specs.Opened.{opened, opened_in, most_opened}
use Rattle.request_refusals.specs.declared.refusal.Refusal.{Refusal}
use Rattle.request_refusals.specs.declared.refusal.Refusal.TheVariants.{NoIndex}
use Rattle.search_bodies.specs.MultiData.{MultiData}
use Rattle.request_replies.specs.Replies.{with_uid}
use Rattle.named_indexes.specs.Indexes.{Indexes, index_at}
use Rattle.search_routes.specs.Machine.{found_shown, search_refusal, searched, result_of, results_of}
use Rattle.search_routes.specs.Needs.{there_need, search_need}
use Rattle.search_routes.specs.Openings.{there_opened, search_opened, search_most}
use Rattle.search_routes.specs.Several.{Tally, Searched, Searches, has_starved, outcome_of, fault_of, text_of}
use Rattle.search_routes.proofs.RunLemmas.{PassesAs, Stepped, starved_by, runs-one, ran-all, ran-until}

-- ---- a search that is refused

none-found : (w : Option SearchRefusal) (f : Found) (shown : Found → Data) (all : List Opening) (m n : ℕ)
    → is_ok (refused_as search_refusal (w >> Ok f) >>= λ f. Ok (shown f)) ≡ false
    → (unless_refused w m 0 ≡ 0) × (unless_refused w all [] ≡ []) × (unless_refused w n 0 ≡ 0)
none-found None f shown all m n is = absurd (cc)
none-found (Some refusal) f shown all m n is = (refl, refl, refl)

none-there : (o : Option Index) (uid : List ℕ) (call : SearchView) → is_ok (or_refuse (NoIndex uid) o >>= λ i. refused_as search_refusal (found i call) >>= λ f. Ok (found_shown call i.settings (terms_in i call) f)) ≡ false
    → (there_need o (λ i. documents_needed i call) ≡ 0) × (there_opened o (λ i. opened i call) ≡ []) × (there_need o (λ i. most_opened i call) ≡ 0)
none-there None uid call is = (refl, refl, refl)
none-there (Some i) uid call is = none-found (search_fault i.settings call) (found_in i call) (found_shown call i.settings (terms_in i call)) (opened_in i call) _ _ is

-- it reads and opens nothing
none-made : (es : Indexes) (search : MultiData) → is_ok (searched es search.uid search.call) ≡ false
    → (search_need es search.uid search.call ≡ 0) × (search_opened es search.uid search.call ≡ []) × (search_most es search.uid search.call ≡ 0)
none-made es search is = none-there (index_at search.uid es) search.uid search.call is

-- a text is there just where the search is answered
shown-alike : (r : Result Data Refusal) (added : Data → Data) → is_ok ((r >>= λ d. Ok (added d)) >>= λ d. Ok (compact_text d)) ≡ is_ok r
shown-alike (Ok d) added = refl
shown-alike (Err refusal) added = refl

text-alike : (es : Indexes) (search : MultiData) → is_ok (text_of es search) ≡ is_ok (searched es search.uid search.call)
text-alike es search = shown-alike (searched es search.uid search.call) (with_uid search.uid)

-- ---- one search

abbrev need-of : Indexes → MultiData → ℕ
need-of es search = search_need es search.uid search.call

abbrev opened-of : Indexes → MultiData → List Opening
opened-of es search = search_opened es search.uid search.call

abbrev most-of : Indexes → MultiData → ℕ
most-of es search = search_most es search.uid search.call

abbrev passes-of : Indexes → MultiData → Bool
passes-of es search = is_ok (searched es search.uid search.call)

-- what the search of an index did, as one of several
pub searched-one : (es : Indexes) (call : MultiData) (r : Result (List ℕ) (Fault Refusal)) (outcome : Result (List ℕ) (OneFault Refusal)) (old new : Tally) → outcome ≡ outcome_of r
    → Gives (λ text. text) r (text_of es call) → new.fetched ≤ old.fetched + search_need es call.uid call.call → Opens (is_starved r) (search_opened es call.uid call.call) old.log new.log
    → new.log.opened ≤ old.log.opened + search_most es call.uid call.call → Searched es call outcome old new
searched-one es call r outcome old new is gives fetched opens few =
    subst (λ o. Searched es call o old new) (sym is) (record {
      agrees = agrees r gives;
      runs =
          runs-one (need-of es) (opened-of es) (most-of es) (passes-of es) (none-made es) (has_starved (outcome_of r)) call old new fetched
          (subst (λ b. Opens b (search_opened es call.uid call.call) old.log new.log) (same r) opens) few;
    })
  where
    agrees : (r : Result (List ℕ) (Fault Refusal)) → Gives (λ text. text) r (text_of es call) → Agrees (text_of es call) (outcome_of r)
    agrees (Ok text) gives = gives
    agrees (Err (fault.Refused refusal)) gives = gives
    agrees (Err fault.NoMemory) gives = tt

    same : (r : Result (List ℕ) (Fault Refusal)) → is_starved r ≡ has_starved (outcome_of r)
    same (Ok text) = refl
    same (Err (fault.Refused refusal)) = refl
    same (Err fault.NoMemory) = refl

passes-as : (es : Indexes) (call : MultiData) (outcome : Result (List ℕ) (OneFault Refusal)) → Agrees (text_of es call) outcome → PassesAs outcome (passes-of es call)
passes-as es call (Ok text) is = sym (text-alike es call) ∙ ap is_ok is
passes-as es call (Err (one.Refused refusal)) is = sym (text-alike es call) ∙ ap is_ok is
passes-as es call (Err one.NoMemory) is = tt

starved-alike : {R : Type 0} (why : MultiFault R) → starved_by why ≡ is_starved {A = ℕ} (Err (fault_of why))
starved-alike (multi.Query index refusal) = refl
starved-alike multi.NoMemory = refl

-- ---- what was made

-- searches of the same indexes, that tell the same log and count by the same counters
abbrev pub Kept : {S : Type 0} (es_of : S → Indexes) (log fetches openings : S → ℕ) → S → S → Type 0
Kept es_of log fetches openings before after =
    (es_of after ≡ es_of before) × (log after ≡ log before) × (fetches after ≡ fetches before) × (openings after ≡ openings before)

module _ {S : Type 0} (before after : S) (Leaves : S → MultiData → Result (List ℕ) (OneFault Refusal) → S → Type 0) (es_of : S → Indexes)
    (log fetches openings : S → ℕ) (tally : S → Tally)
    (parts : (b : S) (call : MultiData) (outcome : Result (List ℕ) (OneFault Refusal)) (a : S) → Leaves b call outcome a
    → Kept es_of log fetches openings b a × Searched (es_of b) call outcome (tally b) (tally a)) where
  at-first : Kept es_of log fetches openings before before
  at-first = (refl, refl, refl, refl)

  step : (b a : S) (call : MultiData) (outcome : Result (List ℕ) (OneFault Refusal)) → Kept es_of log fetches openings before b → Leaves b call outcome a
      → Stepped Leaves (Kept es_of log fetches openings before) tally (passes-of (es_of before)) (need-of (es_of before)) (opened-of (es_of before)) (most-of (es_of before)) call outcome b a
  step b a call outcome at leaves =
      let both = parts b call outcome a leaves in
      let did = subst (λ es. Searched es call outcome (tally b) (tally a)) at.0 both.1 in
      record {
        at = (both.0.0 ∙ at.0, both.0.1 ∙ at.1, both.0.2 ∙ at.2, both.0.3 ∙ at.3);
        passed = passes-as (es_of before) call outcome did.agrees;
        runs = did.runs;
      }

  all-ran : (calls : List MultiData) (answers : List (List ℕ)) → Chain Leaves before calls (map Ok answers) after
      → Kept es_of log fetches openings before after × Searches (es_of before) false calls (tally before) (tally after)
  all-ran calls answers made =
      ran-all Leaves (Kept es_of log fetches openings before) tally (passes-of (es_of before)) (need-of (es_of before)) (opened-of (es_of before)) (most-of (es_of before))
      step before after calls answers at-first made

  until-ran : (calls : List MultiData) (why : MultiFault Refusal) → RanUntil Leaves before calls why after
      → Kept es_of log fetches openings before after × Searches (es_of before) (starved_by why) calls (tally before) (tally after)
  until-ran calls why ran =
      ran-until Leaves (Kept es_of log fetches openings before) tally (passes-of (es_of before)) (need-of (es_of before)) (opened-of (es_of before)) (most-of (es_of before))
      step before after calls why at-first ran

-- the same in the order in which they are known
pub made-all : {S : Type 0} (before after : S) (Leaves : S → MultiData → Result (List ℕ) (OneFault Refusal) → S → Type 0) (calls : List MultiData) (answers : List (List ℕ))
    → Chain Leaves before calls (map Ok answers) after → (es_of : S → Indexes) (log fetches openings : S → ℕ) (tally : S → Tally)
    → ((b : S) (call : MultiData) (outcome : Result (List ℕ) (OneFault Refusal)) (a : S) → Leaves b call outcome a
    → Kept es_of log fetches openings b a × Searched (es_of b) call outcome (tally b) (tally a))
    → Kept es_of log fetches openings before after × Searches (es_of before) false calls (tally before) (tally after)
made-all before after Leaves calls answers made es_of log fetches openings tally parts =
    all-ran before after Leaves es_of log fetches openings tally parts calls answers made

pub made-until : {S : Type 0} (before after : S) (Leaves : S → MultiData → Result (List ℕ) (OneFault Refusal) → S → Type 0) (calls : List MultiData) (why : MultiFault Refusal) (given : Fault Refusal)
    → given ≡ fault_of why → RanUntil Leaves before calls why after → (es_of : S → Indexes) (log fetches openings : S → ℕ) (tally : S → Tally)
    → ((b : S) (call : MultiData) (outcome : Result (List ℕ) (OneFault Refusal)) (a : S) → Leaves b call outcome a
    → Kept es_of log fetches openings b a × Searched (es_of b) call outcome (tally b) (tally a))
    → Kept es_of log fetches openings before after × Searches (es_of before) (is_starved {A = ℕ} (Err given)) calls (tally before) (tally after)
made-until before after Leaves calls why given is ran es_of log fetches openings tally parts =
    let all = until-ran before after Leaves es_of log fetches openings tally parts calls why ran in
    (all.0, subst (λ b. Searches (es_of before) b calls (tally before) (tally after)) (starved-alike why ∙ ap (λ f. is_starved {A = ℕ} (Err f)) (sym is)) all.1)

-- ---- what is answered

text-shown : (r : Result Data Refusal) (text : List ℕ) → (r >>= λ d. Ok (compact_text d)) ≡ Ok text → (d : Data) × (r ≡ Ok d) × (text ≡ compact_text d)
text-shown (Ok d) text is = (d, refl, cc)
text-shown (Err refusal) text is = absurd (cc)

text-refused : (r : Result Data Refusal) (refusal : Refusal) → (r >>= λ d. Ok (compact_text d)) ≡ Err refusal → r ≡ Err refusal
text-refused (Ok d) refusal is = absurd (cc)
text-refused (Err other) refusal is = cc

all-more : (r : Result Data Refusal) (rest : Result (List Data) Refusal) (d : Data) (ds : List Data) → r ≡ Ok d → rest ≡ Ok ds
    → (r >>= λ d. rest >>= λ ds. Ok (d ∷ ds)) ≡ Ok (d ∷ ds)
all-more r rest d ds is after =
    ap (λ r. r >>= λ d. rest >>= λ ds. Ok (d ∷ ds)) is ∙ ap (λ rest. rest >>= λ ds. Ok (d ∷ ds)) after

pub all-answered : (es : Indexes) (calls : List MultiData) (texts : List (List ℕ)) → AreAnswers (text_of es) calls texts
    → (ds : List Data) × (results_of es calls ≡ Ok ds) × (texts ≡ map compact_text ds)
all-answered es [] [] are = ([], refl, refl)
all-answered es [] (text ∷ texts) are = absurd (cc)
all-answered es (call ∷ calls) [] are = absurd (cc)
all-answered es (call ∷ calls) (text ∷ texts) are =
    let here : text_of es call ≡ Ok text = cc in
    let after : AreAnswers (text_of es) calls texts = cc in
    let first = text-shown (result_of es call) text here in
    let later = all-answered es calls texts after in
    (first.0 ∷ later.0, all-more (result_of es call) (results_of es calls) first.0 later.0 first.1 later.1, ap₂ (λ t ts. t ∷ ts) first.2 later.2)

first-refused : (es : Indexes) (calls : List MultiData) (index : ℕ) (answers : List (List ℕ)) (refusal : Refusal) → AreAnswers (text_of es) (take index calls) answers
    → slice_get (map (text_of es) calls) index ≡ Some (Err refusal) → results_of es calls ≡ Err refusal
first-refused es [] index answers refusal before here = absurd (cc)
first-refused es (call ∷ calls) zero answers refusal before here =
    let is : text_of es call ≡ Err refusal = cc in
    rw (text-refused (result_of es call) refusal is) refl
first-refused es (call ∷ calls) (suc index) [] refusal before here = absurd (cc)
first-refused es (call ∷ calls) (suc index) (text ∷ answers) refusal before here =
    let is : text_of es call ≡ Ok text = cc in
    let front : AreAnswers (text_of es) (take index calls) answers = cc in
    rw ((text-shown (result_of es call) text is).1, first-refused es calls index answers refusal front here) refl

pub refused-first : (es : Indexes) (calls : List MultiData) (why : MultiFault Refusal) (given : Fault Refusal) → given ≡ fault_of why
    → IsRefusal (text_of es) calls why → Fails given (results_of es calls)
refused-first es calls why given same is = subst (λ f. Fails f (results_of es calls)) (sym same) (by why is)
  where
    by : (why : MultiFault Refusal) → IsRefusal (text_of es) calls why → Fails (fault_of why) (results_of es calls)
    by (multi.Query index refusal) is = first-refused es calls index is.answers refusal is.before is.here
    by multi.NoMemory is = tt

-- one search, as a text
pub text-found : (es : Indexes) (uid : List ℕ) (call : SearchView) (d : Data) (text : List ℕ) → searched es uid call ≡ Ok d → text ≡ compact_text (with_uid uid d)
    → text_of es (record { uid = uid; call = call }) ≡ Ok text
text-found es uid call d text is shown = rw is (ap Ok (sym shown))

pub text-failed : (es : Indexes) (uid : List ℕ) (call : SearchView) (f : Fault Refusal) → Fails f (searched es uid call)
    → Fails f (text_of es (record { uid = uid; call = call }))
text-failed es uid call (fault.Refused refusal) is = rw is refl
text-failed es uid call fault.NoMemory is = tt
