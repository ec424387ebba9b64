use Rattle.std.proofs.Common.{◌≡◌, ◌++◌, ◌∙◌, ap, subst, map, string_bytes, List, true}
use Rattle.std.specs.Option.{option_copied}
use Rattle.serde_json.specs.Written.{compact_text, members_text}
use Rattle.search_base.specs.TermView.{TermView}
use Rattle.search_call.specs.SearchView.{SearchView}
use Rattle.search_result.specs.View.{HitView, found_view}
use Rattle.search_replies.specs.Shown.{hit_shown, shown_by}
use Rattle.request_replies.specs.Replies.{hits_data, shown_with, window_members}
use Rattle.request_replies.proofs.PrintLemmas.{found_printed}
use Rattle.request_replies.proofs.found.found_text.Goals as goal

pub returns : goal.returns
returns c =
    let call = c.call.inside in
    let uid = option_copied c.args.uid in
    let found = found_view c.args.found.now in
    let total = found.total in
    let hits : List HitView = found.hits in
    let facets = found.facets in
    let shown : List TermView → List _ = λ terms. map (hit_shown c.args.displayed.now c.args.call.now terms) hits in
    let text = string_bytes c.push_str.new.self in
    let Is : SearchView → List TermView → Type 0 = λ v terms. text ≡ compact_text (shown_with uid (hits_data v.q v.window total facets (shown terms))) in
    subst (Is c.args.call.now) c.as_slice.ensures.value
    (subst (λ v. Is v c.as_slice.result.now) c.call.view_is
    (found_printed uid call.q call.window total facets (map (shown_by c.in_ok-display.display) hits) _ _ _ _
    c.in_ok-text.ensures.ok c.in_ok-put_found.ensures
    (c.in_ok-rest.ensures ∙ ap (λ q. members_text true (window_members uid q call.window total)) c.as_str.ensures)
    (c.in_ok-push_str.ensures.bytes ∙ ap (λ v. string_bytes c.put_found.new.text ++ v) c.deref.ensures)
    ∙ ap (λ ds. compact_text (shown_with uid (hits_data call.q call.window total facets ds))) (c.in_ok-display.ensures hits)))
