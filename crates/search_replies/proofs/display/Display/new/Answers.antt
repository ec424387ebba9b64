use Rattle.std.proofs.Common.{◌≡◌, ℕ, ◌&&◌, ◌∙◌, ap, subst, map, List}
use Rattle.serde_json.specs.Data.{Data}
use Rattle.search_call.specs.SearchView.{SearchView}
use Rattle.search_result.specs.View.{HitView}
use Rattle.search_replies.specs.Marks.{MarksView}
use Rattle.search_replies.specs.Members.{is_shown}
use Rattle.search_replies.specs.Names.{shows}
use Rattle.search_replies.specs.Shown.{hit_by, hit_shown}
use Rattle.search_replies.proofs.ShownLemmas.{hits_alike}
use Rattle.search_replies.proofs.display.Display.new.Goals as goal

pub returns : goal.returns
returns c = λ hits.
    let call = c.call.inside in
    let displayed = c.args.displayed.now in
    let terms = c.args.terms.now in
    let names = c.in_ok-names.names in
    let same : (name : List ℕ) → shows names name ≡ (is_shown displayed name && is_shown call.retrieve.items name) =
    λ name. c.in_ok-names.ensures name ∙ ap (λ v. is_shown displayed name && is_shown v name) c.deref.ensures.value in
    let by : MarksView → List Data = λ marks. map (hit_by (shows names) marks.formats marks.terms) hits in
    let Is : SearchView → Type 0 = λ v. by c.in_ok-marks.marks ≡ map (hit_shown displayed v terms) hits in
    subst Is c.call.view_is
    (ap by c.in_ok-marks.ensures ∙ hits_alike (shows names) displayed call.retrieve.items call.formats terms same hits)
