use Rattle.std.proofs.Common.{◌≡◌, ◌++◌, drop, string_bytes}
use Rattle.serde_json.specs.Data.{no_members}
use Rattle.serde_json.specs.Written.{members_text}
use Rattle.search_replies.specs.Added.{members_of, with_waiting, AreInOrder}
use Rattle.search_replies.proofs.shown.put_rest.Given as goal

-- the text so far, with those that are left, is the text at first with all
abbrev pub invariant-loop-added : goal.invariant-loop-added
invariant-loop-added l = record {
  order : AreInOrder (drop l.added-index l.added-items);
  text : string_bytes l.text ++ members_text l.later (with_waiting (members_of l.own) (drop l.added-index l.added-items) no_members)
      ≡ string_bytes l.initial.text ++ members_text l.initial.later (with_waiting (members_of l.own) l.added-items no_members);
}
