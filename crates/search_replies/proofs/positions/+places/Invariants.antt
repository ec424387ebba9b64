use Rattle.std.proofs.Common.{◌≡◌, ◌++◌, ◌+◌, drop, length}
use Rattle.serde_json.specs.View.{items_view, members_view}
use Rattle.search_replies.specs.Positions.{places_from, texts_in_items, texts_in_members}
use Rattle.search_replies.proofs.positions.+places.Given as goal

-- the places so far and those of what is left are the places of all, and so with the number of texts
abbrev pub invariant-add_items-loop-item : goal.invariant-add_items-loop-item
invariant-add_items-loop-item l = record {
  places : l.initial.found.places.items ++ places_from l.terms l.initial.found.texts (texts_in_items (items_view l.item-items))
      ≡ l.found.places.items ++ places_from l.terms l.found.texts (texts_in_items (items_view (drop l.item-index l.item-items)));
  texts : l.initial.found.texts + length (texts_in_items (items_view l.item-items))
      ≡ l.found.texts + length (texts_in_items (items_view (drop l.item-index l.item-items)));
}

abbrev pub invariant-add_members-loop-member : goal.invariant-add_members-loop-member
invariant-add_members-loop-member l = record {
  places : l.initial.found.places.items ++ places_from l.terms l.initial.found.texts (texts_in_members (members_view l.initial.member-iterator))
      ≡ l.found.places.items ++ places_from l.terms l.found.texts (texts_in_members (members_view l.member-iterator));
  texts : l.initial.found.texts + length (texts_in_members (members_view l.initial.member-iterator))
      ≡ l.found.texts + length (texts_in_members (members_view l.member-iterator));
}
