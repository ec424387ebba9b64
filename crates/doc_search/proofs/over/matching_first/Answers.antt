use Rattle.std.proofs.Common.{filter, ap, subst, ◌∙◌}
use Rattle.filter_tree.specs.View.{view}
use Rattle.row_filter.specs.Holds.{holds}
use Rattle.doc_search.specs.Matches.{AreInOrder}
use Rattle.doc_search.specs.Rows.{rows_at}
use Rattle.doc_search.specs.Searched.{DocumentsView}
use Rattle.doc_search.proofs.OverLemmas.{passing_among, matching_passing}
use Rattle.doc_search.proofs.over.matching_first.Goals as goal

pub narrowed-requires : goal.narrowed-requires
narrowed-requires c =
    let found = c.rows-documents.result.now in
    passing_among (λ d. holds c.paths-paths.result.now (rows_at found.documents d) (view c.args.filter.now)) c.in_ok-all.all.matching c.in_ok-docs.docs.ids
    (c.in_ok-docs.ensures ∙ ap (filter (λ d. holds c.paths-paths.result.now (rows_at found.documents d) (view c.args.filter.now))) c.matching.ensures)

pub returns : goal.returns
returns c =
    let among = c.args.snapshot.now in
    let made = c.in_ok-made.ensures in
    record {
      order = subst (λ (of : DocumentsView). AreInOrder of.documents) c.rows-documents.ensures c.paths-paths.ensures.order;
      source_is = made.source ∙ c.in_ok-all.ensures.source;
      query_is = made.graph ∙ c.in_ok-all.ensures.graph;
      rules_are = made.rules ∙ c.in_ok-all.ensures.rules;
      matching_is =
          made.matching
          ∙ matching_passing c.rows-documents.result.now among (view c.args.filter.now) c.rows-documents.ensures c.paths-paths.ensures.order
          c.args.query.now c.paths-paths.result.now c.ids.result.now.ids c.matching.result.now.ids c.in_ok-docs.docs.ids c.paths-paths.ensures.paths c.ids.ensures
          (c.matching.ensures ∙ c.in_ok-all.ensures.matching) c.in_ok-docs.ensures;
    }
