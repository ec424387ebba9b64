-- How an index ranks the documents of a search.
use Rattle.std.specs.Prelude.{◌≡◌}
use Rattle.search_base.specs.Graphs.{IsGraph}
use Rattle.search_base.specs.Query.{tuple_under}
use Rattle.search_base.specs.RowsView.{RowsView}
use Rattle.search_base.specs.Terms.{terms_of, terms_under, HaveSame}
use Rattle.search_base.specs.Tuple.{tuple}
use Rattle.search_call.specs.SearchView.{SearchView}
use Rattle.index_core.specs.declared.ranking.Ranking.{Ranking}
use Rattle.index_changes.specs.Index.{Index}
use Rattle.index_core.specs.Matching.{query_in, rules_in, uses_in}

-- the uses and rules are those of the index, each document costs under the graph what it costs under the query, and its
-- first level has the same terms
pub record IsRankingOf (ranking : Ranking) (index : Index) (call : SearchView) : Type 0 where
  pub uses : ranking.uses.now ≡ uses_in index
  pub graph : IsGraph ranking.query
  pub costs : (rows : RowsView)
      → tuple rows ranking.query (rules_in index call) ≡ tuple_under rows (query_in index call) (rules_in index call)
  pub terms : HaveSame (terms_of ranking.query) (terms_under (query_in index call))
  pub rules : ranking.rules.items ≡ rules_in index call
