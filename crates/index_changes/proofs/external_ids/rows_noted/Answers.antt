use Rattle.std.proofs.Common.{List, sym, subst}
use Rattle.doc_store.specs.Admitting.{IsNoted}
use Rattle.doc_store.specs.declared.rows.StoreRow.{StoreRow as Row}
use Rattle.index_changes.proofs.external_ids.rows_noted.Goals as goal

pub returns-in-None-clause-noted : goal.returns-in-None-clause-noted
returns-in-None-clause-noted c =
    subst (λ (rows : List Row). IsNoted c.args.store.now.content c.args.admitting.now rows c.new_paths.result) (sym c.new.ensures.items)
    (c.new_paths.ensures c.args.store.now.ids c.args.store.now.content c.requires.0 c.requires.1)
