use Rattle.std.proofs.Common.{◌≡◌, ◌++◌, ap, ◌∙◌, subst, List, Option, OnOk, string_bytes}
use Rattle.serde_json.specs.Data.{Data, Members, object}
use Rattle.serde_json.specs.Written.{compact_text}
use Rattle.doc_values.specs.Walk.{members_in}
use Rattle.search_base.specs.declared.cost_key.CostKey.{CostKey}
use Rattle.search_replies.specs.declared.added.Added.{Added}
use Rattle.search_replies.specs.Added.{owns, with_waiting}
use Rattle.search_replies.specs.Members.{members_by}
use Rattle.search_replies.specs.Names.{shows}
use Rattle.search_result.specs.View.{hit_view}
use Rattle.search_replies.specs.Shown.{hit_by, with_costs, with_formatted, with_positions, added_names}
use Rattle.search_replies.proofs.ShownLemmas.{own_alike}
use Rattle.search_replies.proofs.shown.put_hit.Goals as goal

pub returns : goal.returns
returns c =
    let names = c.args.display.now.names in
    let formats = c.args.display.now.marks.formats in
    let terms = c.args.display.now.marks.terms in
    let view = hit_view c.args.hit.now in
    let all = members_in view.document in
    let added = c.in_ok-added.added.items in
    let ms : Members = members_by (shows names) all in
    let chosen : List Added → Data = λ list. object (with_waiting (members_by (owns names list) all) list ms) in
    let hit_with : Option (List CostKey) → Members → Data = λ costs own. object (with_costs costs (with_formatted formats terms own (with_positions formats terms own ms))) in
    let own = members_by (owns names added) all in
    let waits : chosen added ≡ hit_by (shows names) formats terms view
    = ap object (c.in_ok-added.ensures.members own ms)
    ∙ ap (λ costs. hit_with costs own) c.all_costs-costs.ensures
    ∙ ap (hit_with view.costs) (own_alike names added formats view.costs all (c.in_ok-added.ensures.names ∙ ap (added_names formats) c.all_costs-costs.ensures)) in
    let Is : Data → Type 0 = λ d. OnOk c.put_chosen.result (string_bytes c.put_chosen.new.text ≡ string_bytes c.args.text.now ++ compact_text d) in
    subst Is (ap chosen c.as_slice.ensures.value ∙ waits) c.put_chosen.ensures
