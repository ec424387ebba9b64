use Rattle.std.proofs.Common.{◌≡◌, length, Some, ap, sym, subst, ◌∙◌}
use Rattle.std.specs.Option.{option_map}
use Rattle.search_base.specs.Tuple.{tuple}
use Rattle.search_call.specs.SearchView.{SearchView}
use Rattle.doc_rows.specs.Rows.{rows_of}
use Rattle.doc_store.specs.Store.{row_at}
use Rattle.index_changes.specs.Index.{Index}
use Rattle.index_core.specs.Ranking.{IsRankingOf}
use Rattle.index_core.specs.Shown.{hit_at, costs_shown}
use Rattle.index_core.proofs.Finding.{hit-some, costs-ranked, costs-hidden}
use Rattle.search_settings.proofs.UseLemmas.{uses-length}
use Rattle.index_core.proofs.index.IndexCore.hit.Goals as goal
use Rattle.index_core.proofs.index.IndexCore.hit.Goals.{then-call+in_ok-costs, else-call}

pub costs_of-requires-clause-uses : goal.costs_of-requires-clause-uses
costs_of-requires-clause-uses g c =
    ap length c.requires.uses ∙ uses-length c.args.self.now.settings 0 c.args.self.now.store.paths ∙ ap (λ (i : Index). length i.store.paths) (sym c.self.view_is) ∙ sym (ap length c.paths.ensures)

pub returns-clause-hit : goal.returns-clause-hit
returns-clause-hit g c =
    let index : Index = record { key = c.self.inside.key; store = c.self.inside.store.content; settings = c.self.inside.settings } in
    let call = c.args.call.now in
    let ranking = c.args.ranking.now in
    let document = c.in-Some.document.now in
    let is : IsRankingOf ranking index call = subst (λ (i : Index). IsRankingOf ranking i call) (sym c.self.view_is) c.requires in
    let there : Some document ≡ option_map (λ r. r.document) (row_at c.args.id.0 index.store.rows) = sym (ap (option_map (λ d. d.now)) c.in-Some.is) ∙ c.fetch.ensures.document in
    let costs : option_map (λ costs. costs.items) c.if-call.costs ≡ costs_shown index call document = elim c.if-call.branch [
      | then-call+in_ok-costs w ↦ ap (option_map (λ costs. costs.items)) w.costs-is ∙ w.in_ok-costs.ensures ∙ ap (λ ps. tuple (rows_of document ps ranking.uses.now) ranking.query ranking.rules.items) w.paths.ensures
          ∙ costs-ranked index call ranking document is (sym (ap (λ (v : SearchView). v.costs) c.call.view_is) ∙ w.if-call.true)
      | else-call w ↦ ap (option_map (λ costs. costs.items)) w.costs-is ∙ costs-hidden index call document (sym (ap (λ (v : SearchView). v.costs) c.call.view_is) ∙ w.if-call.false)
    ] in
    hit-some index call c.args.id.0 document (option_map (λ costs. costs.items) c.if-call.costs) there costs ∙ ap (λ (i : Index). hit_at i call c.args.id.0) c.self.view_is
