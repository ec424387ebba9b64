use Rattle.std.proofs.Common.{take, ap, nat_eq, rules, ◌∙◌}
use Rattle.std.specs.List.{starts_with}
use Rattle.std.proofs.lemmas.Fn.{filter_same}
use Rattle.facet_counts.specs.declared.rows.CountRow.{CountRow}
use Rattle.list_facets.proofs.own.asked_of.Goals as goal

pub returns : goal.returns
returns c = c.truncate.ensures.items
    ∙ ap (take c.args.query.now.most)
    (filter_same _ (λ (row : CountRow). starts_with nat_eq row.value c.args.query.now.prefix) _ (λ x b f' h. search rules) _ _ c.retain.ensures.filtered)
