use Rattle.std.proofs.Common.{◌≡◌, ◌+◌, List, ◌∷◌, drop, sym, ap, ◌∙◌}
use Rattle.std.proofs.lemmas.List.{drop_more}
use Rattle.serde_json.specs.View.{view, items_view}
use Rattle.search_bodies.specs.Multi.{queries_from}
use Rattle.search_bodies.specs.MultiData.{MultiData}
use Rattle.search_bodies.proofs.Listed.{after_these, query_read}
use Rattle.search_bodies.proofs.multi.read_queries.Goals as goal

pub loop-before-preserved : goal.loop-before-preserved
loop-before-preserved c =
    let at = c.loop-before.before in
    let query = c.index-queries-before.result in
    let more = drop (at + 1) c.args.queries.now in
    let left : drop at c.args.queries.now ≡ query ∷ more =
    drop_more c.args.queries.now at query c.loop-before-test.true ∙ ap (λ v. v ∷ more) (sym c.index-queries-before.is) in
    c.loop-before.invariant
    ∙ ap (λ queries. after_these c.loop-before.calls.items (queries_from (at + 1) (items_view queries))) left
    ∙ query_read (at + 1) (view query) (items_view more) c.loop-before.calls.items c.in_ok-read_query.field-0 c.in_ok-read_query.ensures
    ∙ ap (λ calls. after_these calls (queries_from (at + 1 + 1) (items_view more))) (sym {A = List MultiData} c.in_ok-push.ensures.items)
