use Rattle.std.proofs.Common.{map}
use Rattle.std.specs.Option.{option_copied}
use Rattle.document_changes.specs.Changes.{kind_view}
use Rattle.doc_store.specs.Admitting.{IsAdmitting}
use Rattle.index_changes.specs.Gathering.{rows_in}
use Rattle.index_changes.proofs.Gathering.{Looks}
use Rattle.index_changes.proofs.gathered.gather.Given as goal

-- what the changes so far come to, and the admission of their documents
abbrev pub invariant-loop-change : goal.invariant-loop-change
invariant-loop-change l =
    Looks (option_copied l.own) l.store.content (map kind_view l.fn.changes.items) (map kind_view l.change-iterator.rest.items) (rows_in l.gathering) l.faults.items
    × IsAdmitting l.store.ids l.store.content l.gathering.rows.items l.gathering.admitting
