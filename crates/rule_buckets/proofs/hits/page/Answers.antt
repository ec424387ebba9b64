use Rattle.std.proofs.Common.{length, ap, ◌∙◌}
use Rattle.std.proofs.lemmas.Result.{IfOk-weaker}
use Rattle.search_base.specs.CostOrder.{before}
use Rattle.bucket_sort.specs.Hits.{hits_of as hits_by}
use Rattle.rule_buckets.specs.Entries.{entry_at}
use Rattle.rule_buckets.proofs.Slices.{hits-in}
use Rattle.rule_buckets.proofs.hits.page.Goals as goal

pub returns-clause-hits : goal.returns-clause-hits
returns-clause-hits g c =
    let over = c.args.rules.now in
    let rows = g.S.RuleSource.rows in
    let window = c.args.window in
    IfOk-weaker c.page.result _ _ (λ hits same. same
    ∙ ap (λ ids. hits_by before (λ level d. entry_at (rows over.source d) over.graph over.rules level) (length over.rules) ids window.offset window.limit)
    (c.in_ok-all.ensures.cases ∙ c.matching.ensures)
    ∙ hits-in rows over window.offset window.limit) c.page.ensures.hits
