use Rattle.std.proofs.Common.{◌≡◌, Bool, refl, ap, sym, ◌∙◌}
use Rattle.filter_tree.specs.View.{view as tree_of}
use Rattle.doc_search.specs.Found.{values_in}
use Rattle.doc_search.specs.Searched.{DocumentsView, documents_in}
use Rattle.list_facets.specs.declared.query.FacetQuery.{FacetQuery}
use Rattle.list_facets.specs.Rows.{rows_asked}
use Rattle.row_filter.specs.Holds.{holds}
use Rattle.search_base.specs.Query.{tuple_under}
use Rattle.search_base.specs.RowsView.{RowsView}
use Rattle.search_call.specs.SearchView.{FacetCallView, matches_of}
use Rattle.index_changes.specs.Index.{Index}
use Rattle.index_core.specs.FacetHits.{asked_at, hits_at}
use Rattle.index_core.specs.Matching.{query_in, rules_in, uses_in}
use Rattle.index_core.proofs.Finding.{IsAsked, rows-same}
use Rattle.index_core.proofs.index.IndexCore.values.Goals as goal

pub returns : goal.returns
returns c =
    let index : Index = record { key = c.self.inside.key; store = c.self.inside.store.content; settings = c.self.inside.settings } in
    let call = c.args.call.now in
    let seen = c.call.view_is in
    let search = matches_of call in
    let filter = tree_of c.call.inside.filter in
    let passing : RowsView → Bool = λ rows. holds index.store.paths rows filter in
    let graph = c.in_ok-query.query in
    let rules = rules_in index search in
    let asked : IsAsked index search passing graph rules = record {
      filter = λ rows. ap (λ (v : FacetCallView). holds index.store.paths rows v.filter) seen;
      query = λ rows.
          c.in_ok-query.ensures.costs index.settings c.self.invariant.words rows rules
          ∙ ap (λ (v : FacetCallView). tuple_under rows (query_in index (matches_of v)) rules) seen;
      ruled = refl;
    } in
    let documents : c.in_ok-documents.documents ≡ documents_in index.store (uses_in index) =
    c.in_ok-documents.ensures ∙ ap (λ (i : Index). documents_in i.store (uses_in i)) (sym c.self.view_is) in
    let query : c.in_ok-asked.asked ≡ asked_at call c.args.path index.settings.max_values_per_facet =
    c.in_ok-asked.ensures ∙ ap (asked_at call c.args.path) c.max_values_per_facet.ensures.number in
    c.in_ok-rows.ensures
    ∙ ap (λ (d : DocumentsView). values_in d graph filter c.in_ok-asked.asked) documents
    ∙ ap (λ (of : FacetQuery). values_in (documents_in index.store (uses_in index)) graph filter of) query
    ∙ ap (rows_asked (asked_at call c.args.path index.settings.max_values_per_facet)) (rows-same index search passing graph rules asked index.store.rows)
    ∙ ap (λ (i : Index). hits_at i call c.args.path) c.self.view_is
