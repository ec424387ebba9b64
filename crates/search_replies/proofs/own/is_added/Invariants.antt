use Rattle.std.proofs.Common.{◌≡◌, drop, map}
use Rattle.search_replies.specs.Added.{added_name}
use Rattle.search_replies.specs.Members.{is_among}
use Rattle.search_replies.proofs.own.is_added.Given as goal

-- the name is among all where it is among those that are left
abbrev pub invariant-loop-one : goal.invariant-loop-one
invariant-loop-one l = is_among (map added_name l.added) l.name ≡ is_among (map added_name (drop l.one-index l.added)) l.name
