use Rattle.facet_index.specs.Sorts.{sort_entry}
use Rattle.leaf_table.specs.Tables.{kept_at}
use Rattle.doc_search.proofs.EntryLemmas.{AreEntriesYet}
use Rattle.doc_search.proofs.ordered.entries_of.Given as goal

abbrev pub invariant-loop-id : goal.invariant-loop-id
invariant-loop-id l = AreEntriesYet (λ d. sort_entry l.up l.path.0 (kept_at d l.leaves)) l.universe.ids l.id-iterator l.entries.items
