use Rattle.std.proofs.Common.{◌≡◌, ◌++◌, drop, string_bytes, false}
use Rattle.serde_json.specs.View.{items_view, members_view}
use Rattle.serde_json.specs.Written.{items_text, members_text, items_have_float, members_have_float}
use Rattle.search_replies.specs.Formatted.{items_with_texts, members_with_texts}
use Rattle.search_replies.proofs.formatted.+texts.Given as goal

-- the text so far, with what is left, is the text at first with all
abbrev pub invariant-put_items-loop-item : goal.invariant-put_items-loop-item
invariant-put_items-loop-item l = record {
  whole : items_have_float (items_view (drop l.item-index l.item-items)) ≡ false;
  text : string_bytes l.text ++ items_text l.later (items_with_texts l.terms l.how (items_view (drop l.item-index l.item-items)))
      ≡ string_bytes l.initial.text ++ items_text false (items_with_texts l.terms l.how (items_view l.item-items));
}

abbrev pub invariant-put_members-loop-name : goal.invariant-put_members-loop-name
invariant-put_members-loop-name l = record {
  whole : members_have_float (members_view l.name-iterator) ≡ false;
  text : string_bytes l.text ++ members_text l.later (members_with_texts l.terms l.how (members_view l.name-iterator))
      ≡ string_bytes l.initial.text ++ members_text false (members_with_texts l.terms l.how (members_view l.initial.name-iterator));
}
