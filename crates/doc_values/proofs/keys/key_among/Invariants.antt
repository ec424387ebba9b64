use Rattle.std.proofs.Common.{◌≡◌, ℕ, List, ◌++◌, length}
use Rattle.std.specs.Option.{option_copied}
use Rattle.serde_json.specs.View.{members_view}
use Rattle.doc_values.specs.Ids.{candidates}
use Rattle.doc_values.proofs.Candidates.{first_of}
use Rattle.doc_values.proofs.keys.key_among.Given as goal

-- the candidates so far, and those that are left
abbrev pub invariant-loop-name : goal.invariant-loop-name
invariant-loop-name l =
    (found : List (List ℕ)) × (candidates (members_view l.initial.name-iterator) ≡ found ++ candidates (members_view l.name-iterator))
    × (l.count ≡ length found) × (option_copied l.first ≡ first_of found)
