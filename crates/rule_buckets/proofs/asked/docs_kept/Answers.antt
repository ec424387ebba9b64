use Rattle.std.proofs.Common.{refl}
use Rattle.rule_buckets.specs.Tables.{IsTable}
use Rattle.rule_buckets.proofs.Tables.{each-at, table-tells}
use Rattle.rule_buckets.proofs.asked.docs_kept.Goals as goal

pub returns-then-tells : goal.returns-then-tells
returns-then-tells g c =
    let rows = g.S.RuleSource.rows c.args._source.now in
    table-tells rows c.table-item.result c.args.condition.now c.args.number c.args.universe.now.ids c.in_ok-docs.docs.ids c.as_slice.result.now
    (each-at (IsTable rows) c.args.tables.now c.loop-table.table-index c.table-item.result c.requires.tables c.loop-table-test.true c.table-item.is)
    (c.if-tells.ensures.alike refl c.args.number c.requires.number) c.requires.condition (c.if-tells.ensures.whole refl) c.as_slice.ensures.value c.in_ok-docs.ensures
