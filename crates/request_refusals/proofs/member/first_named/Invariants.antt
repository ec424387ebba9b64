use Rattle.std.proofs.Common.{◌≡◌, drop}
use Rattle.request_refusals.specs.Members.{first_named}
use Rattle.request_refusals.proofs.member.first_named.Given as goal

-- the first of all is among those left
abbrev pub invariant-loop-member : goal.invariant-loop-member
invariant-loop-member l = first_named l.name (drop l.member-index l.members) ≡ first_named l.name l.members
