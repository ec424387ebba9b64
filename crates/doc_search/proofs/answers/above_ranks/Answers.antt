use Rattle.doc_search.proofs.RowLemmas.{ranked_at}
use Rattle.doc_search.proofs.answers.above_ranks.Goals as goal

pub returns : goal.returns
returns g c = λ d. ranked_at c.rank_count-count.result (g.I.IndexedRows.documents c.args.rows.now) d c.rank_count-count.ensures
