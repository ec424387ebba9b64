use Rattle.std.proofs.Common.{◌≡◌, List, subst}
use Rattle.std.specs.List.{filter}
use Rattle.std.specs.Result.{IfOk}
use Rattle.facet_index.specs.LeavesView.{LeavesView}
use Rattle.facet_index.specs.Documents.{has_mark, passes_at}
use Rattle.facet_index.specs.Places.{IsIndexOf}
use Rattle.facet_index.proofs.AnswerLemmas.{mark_answer}
use Rattle.facet_index.proofs.facet_index.FacetIndex.marked.Goals as goal

pub returns : goal.returns
returns c =
    subst (λ view. IfOk c.documents_at.result (λ docs. (documents : List LeavesView) → IsIndexOf view documents
    → docs.ids ≡ filter (passes_at (has_mark c.args.kind c.args.path.0) documents) c.args.universe.now.ids)) c.self.view_is
    (mark_answer c.keys_tell_facets_apart.ensures c.self.inside.keys c.args.path.0 c.args.kind c.args.universe.now.ids c.in_ok-key.key
    c.in_ok-key.ensures.key c.in_ok-key.ensures.narrow c.documents_at.result c.documents_at.ensures)
