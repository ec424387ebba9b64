use Rattle.std.proofs.Common.{◌≡◌, Some, None, ap, ap₂, sym, ◌∙◌}
use Rattle.search_call.specs.SearchView.{FacetCallView}
use Rattle.search_settings.specs.Rules.{path_named}
use Rattle.search_settings.specs.SearchFaults.{facet_search_fault}
use Rattle.index_changes.specs.Index.{Index}
use Rattle.index_core.proofs.Finding.{path-found, values-found}
use Rattle.index_core.proofs.index.IndexCore.facet_search.Goals as goal

pub returns-in_ok-rows-in-Some : goal.returns-in_ok-rows-in-Some
returns-in_ok-rows-in-Some c =
    let now = c.args.self.now in
    let call = c.args.call.now in
    let none = sym (ap (λ (i : Index). facet_search_fault i.settings call) c.self.view_is) ∙ c.in_ok-check_facet_search.ensures in
    let named : path_named now.store.paths call.name ≡ Some c.in-Some.path =
    ap₂ (λ (i : Index) (v : FacetCallView). path_named i.store.paths v.name) (sym c.self.view_is) (sym c.call.view_is)
    ∙ path-found c.self.inside.store.content.paths c.call.inside.name _ c.path_id.ensures ∙ c.in-Some.is in
    values-found now call (Some c.in-Some.path) c.in_ok-rows-in-Some.rows.items none named (sym c.in_ok-rows-in-Some.ensures)

pub returns-in-None : goal.returns-in-None
returns-in-None c =
    let now = c.args.self.now in
    let call = c.args.call.now in
    let none = sym (ap (λ (i : Index). facet_search_fault i.settings call) c.self.view_is) ∙ c.in_ok-check_facet_search.ensures in
    let named : path_named now.store.paths call.name ≡ None =
    ap₂ (λ (i : Index) (v : FacetCallView). path_named i.store.paths v.name) (sym c.self.view_is) (sym c.call.view_is)
    ∙ path-found c.self.inside.store.content.paths c.call.inside.name _ c.path_id.ensures ∙ c.in-None.is in
    values-found now call None c.new.result.items none named (sym c.new.ensures.items)
