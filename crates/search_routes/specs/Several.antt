-- What the code does for several searches, one after the other.
use Rattle.std.specs.Prelude.{◌≡◌, ◌≤◌, ℕ, ◌+◌, List, ◌∷◌, [], Bool, true, false, map, flat_map, sum_by, Vec, Result, Ok, Err}
use Rattle.serde_json.specs.Data.{Data}
use Rattle.serde_json.specs.Written.{compact_text}
use Rattle.search_base.specs.Trying.{◌>>=◌}
use Rattle.search_base.specs.Gives.{Fails}
use Rattle.search_base.specs.declared.fault.Fault.{Fault}
use Rattle.search_base.specs.declared.fault.Fault.TheVariants as fault
use Rattle.bucket_sort.specs.declared.log.Opening.{Opening}
use Rattle.bucket_sort.specs.Opens.{LogState, Opens}
use Rattle.multi_search.specs.declared.one.OneFault.{OneFault}
use Rattle.multi_search.specs.declared.one.OneFault.TheVariants as one
use Rattle.multi_search.specs.declared.multi.MultiFault.{MultiFault}
use Rattle.multi_search.specs.declared.multi.MultiFault.TheVariants as multi
use Rattle.multi_search.specs.Outcomes.{Agrees}
use Rattle.request_refusals.specs.declared.refusal.Refusal.{Refusal}
use Rattle.search_bodies.specs.MultiData.{MultiData}
use Rattle.named_indexes.specs.Indexes.{Indexes}
use Rattle.search_routes.specs.Machine.{result_of}
use Rattle.search_routes.specs.Needs.{answered, search_need}
use Rattle.search_routes.specs.Openings.{search_opened, search_most}

-- ---- what is answered

-- what one of several searches shows, as a text
abbrev pub text_of : Indexes → MultiData → Result (List ℕ) Refusal
text_of es search = do
  d ← result_of es search
  Ok (compact_text d)

-- the texts of what is shown, or why there are none
abbrev pub Shows : {A : Type 0} → Result (List Data) Refusal → Result (Vec (List ℕ) A) (Fault Refusal) → Type 0
Shows defined (Ok texts) = (ds : List Data) × (defined ≡ Ok ds) × (texts.items ≡ map compact_text ds)
Shows defined (Err f) = Fails f defined

-- the same from one of several searches, and from several
abbrev pub outcome_of : {A R : Type 0} → Result A (Fault R) → Result A (OneFault R)
outcome_of (Ok x) = Ok x
outcome_of (Err (fault.Refused refusal)) = Err (one.Refused refusal)
outcome_of (Err fault.NoMemory) = Err one.NoMemory

abbrev pub fault_of : {R : Type 0} → MultiFault R → Fault R
fault_of (multi.Query index refusal) = fault.Refused refusal
fault_of multi.NoMemory = fault.NoMemory

-- whether a search found no memory
abbrev pub has_starved : {A R : Type 0} → Result A (OneFault R) → Bool
has_starved (Ok x) = false
has_starved (Err one.NoMemory) = true
has_starved (Err (one.Refused refusal)) = false

-- ---- what is read and opened

-- what a log tells and how many buckets were opened, and how many documents were read, up to now
pub record Tally : Type 0 where
  pub log : LogState
  pub fetched : ℕ

-- Searches were made, each of which reads and opens so much; or, for want of memory, some of them from the first on.
module _ {C : Type 0} (need : C → ℕ) (opened : C → List Opening) (most : C → ℕ) where
  pub record Runs (starved : Bool) (calls : List C) (old new : Tally) : Type 0 where
    pub fetched : new.fetched ≤ old.fetched + sum_by need calls
    pub opens : Opens starved (flat_map opened calls) old.log new.log
    pub few : new.log.opened ≤ old.log.opened + sum_by most calls

-- the same of these searches, up to the first that is refused
abbrev pub Searches : Indexes → Bool → List MultiData → Tally → Tally → Type 0
Searches es starved calls old new =
    Runs (λ search. search_need es search.uid search.call) (λ search. search_opened es search.uid search.call)
    (λ search. search_most es search.uid search.call) starved (answered es calls) old new

-- what one of them leaves
pub record Searched (es : Indexes) (search : MultiData) (outcome : Result (List ℕ) (OneFault Refusal)) (old new : Tally)
    : Type 0 where
  pub agrees : Agrees (text_of es search) outcome
  pub runs : Searches es (has_starved outcome) (search ∷ []) old new
