-- The demo: a machine that holds nothing is sent all requests of the demo, and what its replies say is printed. Behind
-- each reply all tasks that wait have run.
use Rattle.std.specs.Prelude.{◌≡◌, ◌≤◌, ℕ, ◌+◌, false, List, [], ◌∷◌, Option}
use Rattle.std.specs.Io.KnownBytes.{append_known}
use Rattle.outside_io.specs.Faults.{Rose}
use Rattle.http_wire.specs.Reply.{WrotePart}
use Rattle.http_wire.specs.Stream.{Request}
use Rattle.demo_input.specs.Steps.{DemoStep, steps}
use Rattle.demo_input.specs.Summary.{summary}
use Rattle.queued_changes.specs.Machine.{run_out}
use Rattle.queued_changes.specs.Needs.{out_need}
use Rattle.named_indexes.specs.Changes.{changed}
use Rattle.named_indexes.specs.Needs.{need}
use Rattle.search_routes.specs.State.{State, empty_state}
use Rattle.search_routes.specs.Chosen.{answer_of, state_after}
use Rattle.search_routes.specs.Needs.{needed_fetches}
use Rattle.search_routes.specs.Openings.{most_opened_by}
use Rattle.search_server.specs.declared.status.Status.{Status}
use Rattle.search_server.specs.declared.status.Status.TheVariants.{Done, BadWords, ReadFault, WriteFault, DoorFault, DiskFault, Damaged, CutShort, BadHead, RequestsSpent, NoMemory}

-- the machine as the next request finds it
abbrev pub settled_after : State → Request → State
settled_after s q = run_out changed (state_after s q false)

-- each request with the body of the reply to it, by the machine that the ones before left
abbrev pub replied : State → List DemoStep → List (DemoStep × List ℕ)
replied s [] = []
replied s (d ∷ ds) = (d, (answer_of s d.request false).body) ∷ replied (settled_after s d.request) ds

-- how many stored documents a request and the tasks behind its reply need to read
abbrev pub step_need : State → Request → ℕ
step_need s q = needed_fetches s q + out_need changed need (state_after s q false)

-- and all requests
abbrev pub demo_needs : State → List DemoStep → ℕ
demo_needs s [] = 0
demo_needs s (d ∷ ds) = step_need s d.request + demo_needs (settled_after s d.request) ds

-- how many buckets they open at most
abbrev pub demo_openings : State → List DemoStep → ℕ
demo_openings s [] = 0
demo_openings s (d ∷ ds) = most_opened_by s d.request + demo_openings (settled_after s d.request) ds

-- what the demo of so many documents prints
abbrev pub demo_text : ℕ → ℕ → List ℕ
demo_text count seed = summary count (replied empty_state (steps count seed))

-- what was written to the pipe, where it tells that; how many stored documents were read, and buckets opened; how often
-- writing failed
pub record PipeState : Type 0 where
  pub told : Option (List ℕ)
  pub fetches : ℕ
  pub openings : ℕ
  pub write_faults : ℕ

-- what is written, by the status
abbrev pub Printed : List ℕ → PipeState → PipeState → Status → Type 0
Printed text old new Done = new.told ≡ append_known old.told text
Printed text old new WriteFault = WrotePart old.told new.told text × Rose old.write_faults new.write_faults
Printed text old new NoMemory = new.told ≡ old.told
Printed text old new BadWords = ⊥
Printed text old new ReadFault = ⊥
Printed text old new DoorFault = ⊥
Printed text old new DiskFault = ⊥
Printed text old new (Damaged disk place found) = ⊥
Printed text old new (CutShort size) = ⊥
Printed text old new (BadHead kind number) = ⊥
Printed text old new RequestsSpent = ⊥

-- The promise of the demo of so many documents.
pub record ShowsDemo (count seed : ℕ) (old new : PipeState) (status : Status) : Type 0 where
  pub printed : Printed (demo_text count seed) old new status
  pub fetched : new.fetches ≤ old.fetches + demo_needs empty_state (steps count seed)
  pub opened : new.openings ≤ old.openings + demo_openings empty_state (steps count seed)
