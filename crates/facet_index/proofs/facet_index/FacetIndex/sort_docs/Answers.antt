use Rattle.std.proofs.Common.{◌≡◌, ◌∙◌, List, sym, subst}
use Rattle.std.specs.List.{filter}
use Rattle.std.specs.Result.{IfOk}
use Rattle.facet_index.specs.LeavesView.{LeavesView}
use Rattle.facet_index.specs.Places.{IsIndexOf}
use Rattle.facet_index.specs.Sorts.{sort_key, is_under}
use Rattle.facet_index.proofs.SortDocLemmas.{sort_answer, no_sort}
use Rattle.facet_index.proofs.facet_index.FacetIndex.sort_docs.Goals as goal

pub returns-in_default : goal.returns-in_default
returns-in_default c = λ documents index.
    c.new.ensures ∙ no_sort c.args.up documents c.args.path.0 c.args.at.now c.args.universe.now.ids (sym c.in_default.is ∙ c.in_ok-value.ensures)

pub returns : goal.returns
returns c =
    subst (λ view. IfOk c.documents_at.result (λ docs. (documents : List LeavesView) → IsIndexOf view documents
    → docs.ids ≡ filter (λ d. is_under c.args.at.now (sort_key c.args.up c.args.path.0 documents d)) c.args.universe.now.ids)) c.self.view_is
    (sort_answer c.keys_tell_facets_apart.ensures c.args.up c.self.inside.keys c.args.path.0 c.args.at.now c.in-Some.value c.args.universe.now.ids c.in_ok-key.key
    c.in_ok-key.ensures.key c.in_ok-key.ensures.narrow (sym c.in-Some.is ∙ c.in_ok-value.ensures) c.documents_at.result c.documents_at.ensures)
