use Rattle.std.proofs.Common.{◌≡◌, ◌++◌, List, Option, map, string_bytes, subst}
use Rattle.serde_json.specs.Data.{Members, array}
use Rattle.serde_json.specs.View.{items_of}
use Rattle.serde_json.specs.Written.{compact_text, members_text}
use Rattle.facet_counts.specs.FacetView.{FacetView}
use Rattle.search_result.specs.View.{found_view, hit_view}
use Rattle.search_result.specs.declared.Hit.{Hit}
use Rattle.request_replies.specs.Facets.{facet_members}
use Rattle.search_replies.specs.Shown.{shown_by}
use Rattle.request_replies.proofs.PrintLemmas.{hits_printed}
use Rattle.request_replies.proofs.found.put_found.Goals as goal

pub returns : goal.returns
returns c = λ rest.
    let found = found_view c.args.found.now in
    let shown : List Hit → List _ = λ hits. map (shown_by c.args.display.now) (map hit_view hits) in
    let Counts : Option (List FacetView) → Type 0 = λ facets. (rest : Members) → string_bytes c.put_facets.new.text ++ members_text c.in_ok-later-2.later rest
    ≡ string_bytes c.put_estimate.new.text ++ members_text c.in_ok-later.later (facet_members facets rest) in
    let Docs : List Hit → Type 0 = λ hits. string_bytes c.put_hits.new.text ≡ string_bytes c.push_str.new.self ++ compact_text (array (items_of (shown hits))) in
    hits_printed c.args.window found.total found.facets (shown c.args.found.now.hits.items)
    c.in_ok-later.later c.in_ok-later-2.later _ _ _ _ _ _ rest
    c.in_ok-later.ensures (subst Counts c.all_facets.ensures c.in_ok-later-2.ensures) c.in_ok-put_comma.ensures c.in_ok-push_str.ensures.bytes
    (subst Docs c.as_slice.ensures.value c.in_ok-put_hits.ensures)
