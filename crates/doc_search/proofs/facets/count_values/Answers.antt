use Rattle.std.proofs.lemmas.Result.{IfOk-weaker}
use Rattle.doc_search.specs.Rows.{rows_at}
use Rattle.doc_search.proofs.FoundLemmas.{are-rows}
use Rattle.doc_search.proofs.facets.count_values.Goals as goal

pub returns : goal.returns
returns c = IfOk-weaker c.counts.result _ _ (λ reply told. told (rows_at c.args.documents.now.documents) (are-rows c.args.documents.now.documents)) c.counts.ensures
