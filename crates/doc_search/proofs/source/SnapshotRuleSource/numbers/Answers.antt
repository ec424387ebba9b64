use Rattle.std.proofs.Common.{Bool, subst, IfOk, IfSome}
use Rattle.sort_rule.specs.Numbers.{AreNumbered}
use Rattle.rule_buckets.specs.Entries.{sort_entry}
use Rattle.doc_search.specs.Rows.{rows_at}
use Rattle.doc_search.proofs.source.SnapshotRuleSource.numbers.Goals as goal

pub returns : goal.returns
returns g c =
    subst (λ index. IfOk c.numbers_under.result (λ found. IfSome found (λ pairs. (up : Bool)
    → AreNumbered (λ d. sort_entry up c.args.path.0 (rows_at (g.I.IndexedRows.documents index) d).leaves) up c.args.universe.now.ids pairs.items)))
    c.self.view_is c.numbers_under.ensures
