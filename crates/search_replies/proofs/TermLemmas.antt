-- Which terms there are decides what is shown of hits, and not how they are listed.
use Rattle.std.proofs.Common.{◌≡◌, ℕ, List, [], ◌∷◌, ◌++◌, ◌+◌, map, false, cond, codes, Option, Some, None, refl, ap, ap₂}
use Rattle.serde_json.specs.Data.{Data, null, boolean, number, string, array, object, Items, no_items, item, Members, no_members, member, put}
use Rattle.search_base.specs.TermView.{TermView}
use Rattle.search_base.specs.Terms.{HaveSame}
use Rattle.search_base.specs.declared.cost_key.CostKey.{CostKey}
use Rattle.search_call.specs.FormatView.{FormatView, formats_texts}
use Rattle.search_call.specs.SearchView.{SearchView}
use Rattle.doc_values.specs.Walk.{members_in}
use Rattle.hit_format.specs.declared.asked.Format.{Format}
use Rattle.hit_format.proofs.TermLemmas.{shows-alike}
use Rattle.search_replies.specs.Formatted.{format_for, formatted, formatted_members, with_texts, items_with_texts, members_with_texts}
use Rattle.search_replies.specs.Positions.{texts_in, place_of, places_from, with_places, position_members}
use Rattle.search_replies.specs.Members.{shown_members}
use Rattle.search_result.specs.View.{HitView}
use Rattle.search_replies.specs.Shown.{own_members, with_costs, with_added, hit_shown}

module _ (terms other : List TermView) (same : HaveSame terms other) where
  mutual
    texts_alike : (how : Format) (d : Data) → with_texts terms how d ≡ with_texts other how d
    texts_alike how null = refl
    texts_alike how (boolean b) = refl
    texts_alike how (number n) = refl
    texts_alike how (string text) = ap string (shows-alike text terms other same how).1
    texts_alike how (array ds) = ap array (items_alike how ds)
    texts_alike how (object ms) = ap object (members_alike how ms)

    items_alike : (how : Format) (ds : Items) → items_with_texts terms how ds ≡ items_with_texts other how ds
    items_alike how no_items = refl
    items_alike how (item d ds) = ap₂ item (texts_alike how d) (items_alike how ds)

    members_alike : (how : Format) (ms : Members) → members_with_texts terms how ms ≡ members_with_texts other how ms
    members_alike how no_members = refl
    members_alike how (member name d ms) = ap₂ (member name) (texts_alike how d) (members_alike how ms)

  formatted_alike : (how : Option Format) (d : Data) → formatted terms how d ≡ formatted other how d
  formatted_alike None d = refl
  formatted_alike (Some how) d = texts_alike how d

  all_formatted_alike : (formats : FormatView) (ms : Members) → formatted_members terms formats ms ≡ formatted_members other formats ms
  all_formatted_alike formats no_members = refl
  all_formatted_alike formats (member name d ms) = ap₂ (member name) (formatted_alike (format_for formats name) d) (all_formatted_alike formats ms)

  -- the law's first part says so whatever the format is
  no_format : Format
  no_format = record { highlight = false; pre = []; post = []; crop = None; marker = [] }

  places_alike : (n : ℕ) (texts : List (List ℕ)) → places_from terms n texts ≡ places_from other n texts
  places_alike n [] = refl
  places_alike n (text ∷ texts) =
      ap₂ (λ spans places. map (place_of n) spans ++ places) (shows-alike text terms other same no_format).0 (places_alike (n + 1) texts)

  positions_alike : (ms : Members) → position_members terms ms ≡ position_members other ms
  positions_alike no_members = refl
  positions_alike (member name d ms) = ap₂ (with_places name) (places_alike 0 (texts_in d)) (positions_alike ms)

  added_by_terms : (formats : FormatView) (costs : Option (List CostKey)) (ms : Members) → with_added formats terms costs ms ≡ with_added formats other costs ms
  added_by_terms formats costs ms =
      let own = own_members formats costs ms in
      let places : Data → Members = λ held. cond formats.positions (put (codes "_matchesPosition") held ms) ms in
      ap₂ (λ texts held. with_costs costs (cond (formats_texts formats) (put (codes "_formatted") texts (places held)) (places held)))
      (ap object (all_formatted_alike formats own)) (ap object (positions_alike own))

  hit_by_terms : (displayed : List (List ℕ)) (call : SearchView) (hit : HitView) → hit_shown displayed call terms hit ≡ hit_shown displayed call other hit
  hit_by_terms displayed call hit =
      ap object (added_by_terms call.formats hit.costs (shown_members call.retrieve (shown_members displayed (members_in hit.document))))

  pub hits_by_terms : (displayed : List (List ℕ)) (call : SearchView) (hits : List HitView) → map (hit_shown displayed call terms) hits ≡ map (hit_shown displayed call other) hits
  hits_by_terms displayed call [] = refl
  hits_by_terms displayed call (hit ∷ hits) = ap₂ (λ x xs. x ∷ xs) (hit_by_terms displayed call hit) (hits_by_terms displayed call hits)
