use Rattle.std.proofs.Common.{◌≡◌, map, take, nat_eq, ap, subst, sym, ◌∙◌}
use Rattle.std.proofs.lemmas.Result.{IfOk-weaker}
use Rattle.std.specs.List.{filter, starts_with}
use Rattle.facet_counts.specs.Counts.{count_row, values_at}
use Rattle.list_facets.proofs.TextLemmas.{all_begin}
use Rattle.list_facets.proofs.rows.count_rows.Goals as goal

pub returns : goal.returns
returns c = IfOk-weaker c.count_rows_from.result _ _
    (λ found told rows are. told rows are
    ∙ ap (λ values. map (count_row c.args.path.0 (map rows c.args.matching.now.ids)) (take c.args.most values))
    (subst (λ prefix. filter (λ t. starts_with nat_eq t prefix) (values_at c.args.path.0 (map rows c.args.matching.now.ids)) ≡ values_at c.args.path.0 (map rows c.args.matching.now.ids))
    (sym c.in_ok-prefix.ensures) (all_begin (values_at c.args.path.0 (map rows c.args.matching.now.ids)))))
    c.count_rows_from.ensures
