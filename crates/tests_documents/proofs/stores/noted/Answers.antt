use Rattle.std.proofs.Common.{[]}
use Rattle.tests_documents.proofs.stores.noted.Goals as goal

pub note-requires : goal.note-requires
note-requires g c = ([], c.new_paths-new.ensures c.args.store.now.ids c.args.store.now.content [] c.start_admitting-admitting.ensures)

pub admit_noted-requires-clause-noted : goal.admit_noted-requires-clause-noted
admit_noted-requires-clause-noted g c = c.in_ok-note.ensures [] c.row.result c.row.ensures
    (c.new_paths-new.ensures c.args.store.now.ids c.args.store.now.content [] c.start_admitting-admitting.ensures)
