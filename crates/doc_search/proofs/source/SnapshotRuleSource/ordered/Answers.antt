use Rattle.std.proofs.Common.{reverse, subst, IfOk, IfSome}
use Rattle.sort_rule.specs.Ordered.{AreOrdered}
use Rattle.rule_buckets.specs.Entries.{sort_entry}
use Rattle.doc_search.specs.Rows.{rows_at}
use Rattle.doc_search.proofs.source.SnapshotRuleSource.ordered.Goals as goal

pub returns : goal.returns
returns g c =
    subst (λ index. IfOk c.ordered_under.result (λ found. IfSome found (λ buckets.
    AreOrdered (λ d. sort_entry c.args.up c.args.path.0 (rows_at (g.I.IndexedRows.documents index) d).leaves) c.args.universe.now.ids (reverse buckets.items))))
    c.self.view_is c.ordered_under.ensures
