use Rattle.std.proofs.Common.{◌≤◌, ◌++◌, drop, map}
use Rattle.doc_store.specs.declared.rows.TheConstants.{MAX_IDS}
use Rattle.doc_store.specs.Given.{AreIdsOf}
use Rattle.doc_store.specs.Store.{Store, all_stored, ids_given}
use Rattle.doc_store.proofs.GivenLemmas.{Reached}
use Rattle.doc_store.proofs.given.more_ids.Given as goal

abbrev pub invariant-loop-row : goal.invariant-loop-row
invariant-loop-row l =
    (l.free ≤ MAX_IDS) ×
    ((s : Store) → AreIdsOf l.ids l.fn.fresh l.fn.free s
    → Reached (drop l.row-index l.rows) (all_stored l.rows s) (map (λ id. id.0) l.fn.given.items ++ ids_given l.rows s) l.ids l.fresh l.free (map (λ id. id.0) l.given.items))
