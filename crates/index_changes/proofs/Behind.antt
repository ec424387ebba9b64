-- Rows found before the rest.
use Rattle.std.proofs.Common.{List, ◌++◌, Result, Ok, Err}
use Rattle.doc_store.specs.declared.rows.StoreRow.{StoreRow}
use Rattle.index_changes.specs.declared.refusal.CoreRefusal.{CoreRefusal}

abbrev pub after_these : List StoreRow → Result (List StoreRow) CoreRefusal → Result (List StoreRow) CoreRefusal
after_these found (Ok more) = Ok (found ++ more)
after_these found (Err fault) = Err fault
