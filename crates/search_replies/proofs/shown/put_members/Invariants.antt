use Rattle.std.proofs.Common.{◌≡◌, ◌++◌, string_bytes, false}
use Rattle.serde_json.specs.View.{members_view}
use Rattle.serde_json.specs.Written.{members_text, members_have_float}
use Rattle.search_replies.specs.Added.{members_of, with_waiting, AreInOrder}
use Rattle.search_replies.specs.Members.{members_by}
use Rattle.search_replies.specs.Names.{shows}
use Rattle.search_replies.proofs.shown.put_members.Given as goal

-- the text so far, with the members that are left, is the text at first with all members
abbrev pub invariant-loop-name : goal.invariant-loop-name
invariant-loop-name l = record {
  whole : members_have_float (members_view l.name-iterator) ≡ false;
  order : AreInOrder l.line.waiting.now;
  text : string_bytes l.text ++ members_text l.line.later (with_waiting (members_of l.own) l.line.waiting.now (members_by (shows l.own.names.now) (members_view l.name-iterator)))
      ≡ string_bytes l.initial.text ++ members_text false (with_waiting (members_of l.own) l.own.added.now (members_by (shows l.own.names.now) (members_view l.initial.name-iterator)));
}
