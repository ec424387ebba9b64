use Rattle.std.proofs.Common.{◌≡◌, ◌<◌, length, map, take, ap, ◌∙◌, arith, rules}
use Rattle.facet_counts.specs.Counts.{count_row, values_at}
use Rattle.facet_counts.specs.FacetView.{FacetView}
use Rattle.list_facets.proofs.TextLemmas.{asked_of_all}
use Rattle.list_facets.proofs.own.own_rows.Goals as goal

pub returns : goal.returns
returns c = λ rows are.
    let documents = map rows c.args.matching.now.ids in
    let path = c.args.query.now.path.0 in
    let few : length c.all.inside.rows.items < 18446744073709551615 = first_of (search rules, omega arith) in
    let kept : c.all.inside.rows.items ≡ c.in_ok-all.all.rows = ap (λ (reply : FacetView). reply.rows) c.all.view_is in
    let counted : c.in_ok-all.all.rows ≡ map (count_row path documents) (take 18446744073709551615 (values_at path documents)) =
    ap (λ (reply : FacetView). reply.rows) (c.in_ok-all.ensures rows are) in
    c.asked_of.ensures ∙ asked_of_all c.args.query.now documents 18446744073709551615 c.all.inside.rows.items (kept ∙ counted) few
