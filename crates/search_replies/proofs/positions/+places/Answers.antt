use Rattle.std.proofs.Common.{◌≡◌, ◌++◌, ◌∷◌, ◌+◌, length, drop, ap, sym, ◌∙◌, string_bytes, rules}
use Rattle.std.proofs.lemmas.List.{drop_more}
use Rattle.serde_json.specs.Data.{item, member}
use Rattle.serde_json.specs.View.{view, items_view, members_view}
use Rattle.search_replies.specs.Positions.{places_from, texts_in, texts_in_items, texts_in_members}
use Rattle.search_replies.proofs.PlaceLemmas.{places_step, texts_step}
use Rattle.search_replies.proofs.positions.+places.Goals as goal

pub add_items-loop-item-preserved : goal.add_items-loop-item-preserved
add_items-loop-item-preserved t c =
    let terms = c.args.terms.now in
    let old = c.loop-item.found in
    let all = c.deref-item-items.result.now in
    let i = c.loop-item.item-index in
    let value = c.item-item.result in
    let rest = items_view (drop (i + 1) all) in
    let is : items_view (drop i all) ≡ item (view value) rest = ap items_view (drop_more all i value c.loop-item-test.true ∙ ap (λ v. v ∷ drop (i + 1) all) (sym c.item-item.is)) in
    let found = c.in_ok-add_value.ensures in
    record {
      places = places_step terms _ old.places.items _ old.texts _ (texts_in (view value)) (texts_in_items rest) found.places found.texts
          (c.loop-item.invariant.places ∙ ap (λ ds. old.places.items ++ places_from terms old.texts (texts_in_items ds)) is);
      texts = texts_step _ old.texts _ (texts_in (view value)) (texts_in_items rest) found.texts
          (c.loop-item.invariant.texts ∙ ap (λ ds. old.texts + length (texts_in_items ds)) is);
    }

pub add_members-loop-member-preserved : goal.add_members-loop-member-preserved
add_members-loop-member-preserved t c =
    let terms = c.args.terms.now in
    let old = c.loop-member.found in
    let value = c.in-Some.member.now in
    let rest = members_view c.next.new.self in
    let is : members_view c.loop-member.member-iterator ≡ member (string_bytes c.in-Some.field-0-0.now) (view value) rest = search rules in
    let found = c.in_ok-add_value.ensures in
    record {
      places = places_step terms _ old.places.items _ old.texts _ (texts_in (view value)) (texts_in_members rest) found.places found.texts
          (c.loop-member.invariant.places ∙ ap (λ ms. old.places.items ++ places_from terms old.texts (texts_in_members ms)) is);
      texts = texts_step _ old.texts _ (texts_in (view value)) (texts_in_members rest) found.texts
          (c.loop-member.invariant.texts ∙ ap (λ ms. old.texts + length (texts_in_members ms)) is);
    }
