use Rattle.std.proofs.Common.{◌≤◌, List, [], length, map, drop}
use Rattle.row_index.specs.Documents.{IndexedDocument}
use Rattle.row_index.specs.Changes.{IsChangeOf}
use Rattle.doc_index.specs.Last.{last_of, AreTheirIds}
use Rattle.doc_index.proofs.change.put_in.Given as goal

abbrev pub invariant-loop-i : goal.invariant-loop-i
invariant-loop-i l =
    let come = last_of l.paths l.uses (drop l.i (map (λ id. id.0) l.ids)) (drop l.i l.documents) in
    record {
      within : l.i ≤ length l.ids;
      change : (gone : List IndexedDocument) → IsChangeOf l.initial.change gone [] → IsChangeOf l.change gone come;
      later : AreTheirIds l.later.ids come;
    }

abbrev pub decreases-loop-i : goal.decreases-loop-i
decreases-loop-i l = l.i
