use Rattle.std.proofs.Common.{◌≡◌, ℤ, List, subst}
use Rattle.std.specs.List.{filter}
use Rattle.std.specs.Option.{IfSome}
use Rattle.std.specs.Result.{IfOk}
use Rattle.std.proofs.lemmas.Int.{to_z-of_z}
use Rattle.search_base.specs.declared.value.FacetValue.TheVariants as facet
use Rattle.facet_keys.specs.Keys.{leaf, IsNarrow}
use Rattle.facet_index.specs.LeavesView.{LeavesView}
use Rattle.facet_index.specs.Documents.{has_number_that, is_between, passes_at}
use Rattle.facet_index.specs.Places.{IsIndexOf}
use Rattle.facet_index.proofs.RangeLemmas.{end_of, range_answer}
use Rattle.facet_index.proofs.facet_index.FacetIndex.short_range.Goals as goal

pub returns : goal.returns
returns c =
    let path = c.args.path.0 in
    let low = to_z-of_z _ c.args.low c.ranges.low in
    let high = to_z-of_z _ c.args.high c.ranges.high in
    let is_first = subst (λ (n : ℤ). c.in_ok-first.first ≡ end_of path n) low c.in_ok-first.ensures.key in
    let is_last = subst (λ (n : ℤ). c.in_ok-last.last ≡ end_of path n) high c.in_ok-last.ensures.key in
    let first_fits = subst (λ (n : ℤ). IsNarrow path (leaf (facet.Number n))) low c.in_ok-first.ensures.narrow in
    let last_fits = subst (λ (n : ℤ). IsNarrow path (leaf (facet.Number n))) high c.in_ok-last.ensures.narrow in
    subst (λ view. IfOk c.documents_in_short.result (λ found. IfSome found (λ docs. (documents : List LeavesView) → IsIndexOf view documents
    → docs.ids ≡ filter (passes_at (has_number_that (is_between c.args.low c.args.high) path) documents) c.args.universe.now.ids))) c.self.view_is
    (range_answer c.keys_are_in_order.ensures c.self.inside.keys path c.args.low c.args.high c.args.universe.now.ids c.in_ok-first.first c.in_ok-last.last
    is_first is_last first_fits last_fits c.documents_in_short.result c.documents_in_short.ensures)
