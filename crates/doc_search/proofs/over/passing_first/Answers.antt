use Rattle.std.proofs.Common.{filter, ap, subst, ◌∙◌}
use Rattle.filter_tree.specs.View.{view}
use Rattle.rule_buckets.specs.Entries.{is_match}
use Rattle.doc_search.specs.Matches.{AreInOrder}
use Rattle.doc_search.specs.Rows.{rows_at}
use Rattle.doc_search.specs.Searched.{DocumentsView}
use Rattle.doc_search.proofs.OverLemmas.{all_passing}
use Rattle.doc_search.proofs.over.passing_first.Goals as goal

pub returns : goal.returns
returns c =
    let among = c.args.snapshot.now in
    record {
      order = subst (λ (of : DocumentsView). AreInOrder of.documents) c.rows-documents.ensures c.paths-paths.ensures.order;
      source_is = c.in_ok-made.ensures.source;
      query_is = c.in_ok-made.ensures.graph;
      rules_are = c.in_ok-made.ensures.rules;
      matching_is =
          c.in_ok-made.ensures.matching
          ∙ ap (filter (λ d. is_match (rows_at among.documents d) c.args.query.now))
          (all_passing c.rows-documents.result.now among (view c.args.filter.now) c.rows-documents.ensures c.paths-paths.ensures.order
          c.paths-paths.result.now c.ids.result.now.ids c.in_ok-universe.universe.ids c.paths-paths.ensures.paths c.ids.ensures c.in_ok-universe.ensures);
    }
