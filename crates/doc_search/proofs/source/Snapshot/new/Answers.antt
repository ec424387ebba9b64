use Rattle.std.proofs.Common.{map, sym, subst, ◌∙◌}
use Rattle.postings.specs.Fresh.{StandsFor}
use Rattle.posting_sets.specs.Blocks.{HaveRanks}
use Rattle.row_index.specs.Standing.{placed}
use Rattle.doc_search.proofs.source.Snapshot.new.Goals as goal

pub invariant_of-result : goal.invariant_of-result
invariant_of-result g c =
    let documents = g.I.IndexedRows.documents c.args.rows.now in (
      subst (λ view. StandsFor view (map placed documents)) (sym (c.new.ensures.postings ∙ c.places.ensures)) c.index-index.ensures.places,
      subst (λ ranks. HaveRanks ranks (map placed documents)) (sym c.new.ensures.ranks) c.ranks.ensures,
    )
