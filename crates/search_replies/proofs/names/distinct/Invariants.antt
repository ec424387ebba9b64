use Rattle.std.proofs.Common.{◌≡◌, ℕ, List, take}
use Rattle.std.specs.BTreeSet.{contains_text}
use Rattle.search_replies.specs.Members.{is_among}
use Rattle.search_replies.proofs.names.distinct.Given as goal

-- the set has the names so far
abbrev pub invariant-loop-name : goal.invariant-loop-name
invariant-loop-name l = (name : List ℕ) → contains_text l.set name ≡ is_among (take l.name-index l.names) name
