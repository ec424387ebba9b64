use Rattle.std.proofs.Common.{◌≡◌, ℕ, List, Result, sym, subst}
use Rattle.search_base.specs.Gives.{Tells}
use Rattle.request_refusals.specs.declared.refusal.Refusal.{Refusal}
use Rattle.request_routes.specs.declared.routes.Found.{Found as HeldRoute}
use Rattle.request_routes.specs.declared.table.Path.{Path}
use Rattle.request_routes.specs.Held.{given_by}
use Rattle.request_routes.specs.Patterns.{parts_with}
use Rattle.request_routes.specs.Routes.{route_of}
use Rattle.request_routes.proofs.routes.route_at.Goals as goal

-- what is told of one path is told of the path that is it
told : (result : Result HeldRoute Refusal) (method uid id : List ℕ) (path one : Path) → path ≡ one
    → Tells given_by result (route_of method (parts_with uid id one)) → Tells given_by result (route_of method (parts_with uid id path))
told result method uid id path one is tells = subst (λ v. Tells given_by result (route_of method (parts_with uid id v))) (sym is) tells

pub returns-in-Index : goal.returns-in-Index
returns-in-Index c = told c.index_route.result c.args.method.now c.args.uid.now c.args.id.now c.args.path _ c.in-Index.is c.index_route.ensures

pub returns-in-Documents : goal.returns-in-Documents
returns-in-Documents c = told c.documents_route.result c.args.method.now c.args.uid.now c.args.id.now c.args.path _ c.in-Documents.is c.documents_route.ensures

pub returns-in-Document : goal.returns-in-Document
returns-in-Document c = told c.document_route.result c.args.method.now c.args.uid.now c.args.id.now c.args.path _ c.in-Document.is c.document_route.ensures

pub returns-in-Settings : goal.returns-in-Settings
returns-in-Settings c = told c.settings_route.result c.args.method.now c.args.uid.now c.args.id.now c.args.path _ c.in-Settings.is c.settings_route.ensures

pub returns-in-Search : goal.returns-in-Search
returns-in-Search c = told c.search_route.result c.args.method.now c.args.uid.now c.args.id.now c.args.path _ c.in-Search.is c.search_route.ensures

pub returns-in-FacetSearch : goal.returns-in-FacetSearch
returns-in-FacetSearch c = told c.facet_search_route.result c.args.method.now c.args.uid.now c.args.id.now c.args.path _ c.in-FacetSearch.is c.facet_search_route.ensures
