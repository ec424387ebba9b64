-- The documents that meet a condition.
use Rattle.std.specs.Prelude.{◌≡◌, ℕ, List, Option}
use Rattle.std.specs.List.{filter}
use Rattle.postings.specs.Documents.{Document, places_of}
use Rattle.postings.specs.Dictionary.{PostingsView}
use Rattle.postings.specs.Fresh.{StandsFor}
use Rattle.doc_sets.specs.SetView.{SetView}
use Rattle.posting_sets.specs.Blocks.{HaveRanks}
use Rattle.posting_sets.specs.Numbers.{set_at}
use Rattle.condition_graph.specs.declared.condition.Condition.{Condition}
use Rattle.condition_graph.specs.Meets.{meets}
use Rattle.condition_graph.specs.Numbers.{at_number}
use Rattle.condition_graph.specs.Promise.{IsCondition}

-- these are those of a universe, whatever documents the postings stand for, where each place has the rank of its path
abbrev pub AreMeeting : PostingsView → List (Option ℕ) → Condition → List ℕ → List ℕ → Type 0
AreMeeting view ranks condition universe ids =
    (documents : List Document) → StandsFor view documents → HaveRanks ranks documents
    → ids ≡ filter (λ id. meets (places_of id documents) condition) universe

-- for each number of which there is such a condition, the set at it has those that meet this
abbrev pub AreMeetingByNumber : PostingsView → List (Option ℕ) → Condition → List ℕ → List (ℕ × SetView) → Type 0
AreMeetingByNumber view ranks condition universe rows =
    (n : ℕ) → IsCondition (at_number n condition) → AreMeeting view ranks (at_number n condition) universe (set_at n rows)
