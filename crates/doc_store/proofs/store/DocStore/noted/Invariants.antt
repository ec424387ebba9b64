use Rattle.std.proofs.Common.{take}
use Rattle.doc_store.specs.Admitting.{IsNoted}
use Rattle.doc_store.proofs.store.DocStore.noted.Given as goal

abbrev pub invariant-loop-row : goal.invariant-loop-row
invariant-loop-row l = IsNoted l.self.content l.admitting (take l.row-index l.rows) l.new
