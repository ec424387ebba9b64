use Rattle.std.proofs.Common.{◌≡◌, ◌++◌, string_bytes, false}
use Rattle.serde_json.specs.View.{members_view}
use Rattle.serde_json.specs.Written.{members_text}
use Rattle.search_replies.specs.Added.{owns}
use Rattle.search_replies.specs.Members.{members_by}
use Rattle.search_replies.specs.Positions.{position_members}
use Rattle.search_replies.proofs.positions.put_positions.Given as goal

-- the text so far, with the members that are left, is the text at first with all members
abbrev pub invariant-loop-name : goal.invariant-loop-name
invariant-loop-name l =
    string_bytes l.text ++ members_text l.later (position_members l.marks.terms (members_by (owns l.own.names.now l.own.added.now) (members_view l.name-iterator)))
    ≡ string_bytes l.initial.text ++ members_text false (position_members l.marks.terms (members_by (owns l.own.names.now l.own.added.now) (members_view l.initial.name-iterator)))
