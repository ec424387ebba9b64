use Rattle.std.proofs.Common.{sym, map, subst}
use Rattle.row_index.specs.Standing.{placed}
use Rattle.posting_sets.specs.Blocks.{HaveRanks}
use Rattle.doc_index.specs.Documents.{documents_of}
use Rattle.doc_search.proofs.FoundLemmas.{in-order}
use Rattle.doc_search.proofs.RankLemmas.{have-ranks, are-ranked}
use Rattle.doc_search.proofs.documents.IndexedDocuments.new.Goals as goal

pub invariant_of-result : goal.invariant_of-result
invariant_of-result c =
    let s = c.args.store.now.content in
    let uses = c.args.uses.now in
    record {
      stands = c.requires.stands;
      ranked = subst (λ ranks. HaveRanks ranks (map placed (documents_of s.paths uses s.rows))) (sym c.in_ok-ranks.ensures) (have-ranks s.paths uses s.rows);
      below = are-ranked c.bound_of.result s.paths uses s.rows c.bound_of.ensures;
      order = in-order s.paths uses 0 s.rows s.next_id c.requires.sound.increase;
      few = c.requires.sound.paths_within;
    }
