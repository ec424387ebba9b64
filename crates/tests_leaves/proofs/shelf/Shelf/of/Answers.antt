use Rattle.std.proofs.Common.{[], ◌∙◌, sym, subst}
use Rattle.facet_index.specs.Batches.{IsChangeFor}
use Rattle.leaf_table.specs.Changes.{IsLeafChangeOf}
use Rattle.tests_leaves.specs.Shelves.{numbered}
use Rattle.tests_leaves.proofs.ShelfLemmas.{first_batch, all_there, all_kept}
use Rattle.tests_leaves.proofs.shelf.Shelf.of.Goals as goal

pub invariant_of-result : goal.invariant_of-result
invariant_of-result c =
    let leaves = c.args.leaves.items in
    let changes = c.in_ok-facet_change in
    record {
      index = all_there c.commit.new.self leaves
          (c.commit.ensures.index [] (numbered leaves) []
          (c.in_ok-prepared_facets.ensures.made [] (numbered leaves)
          (subst (λ ls. IsChangeFor changes.facet_change [] (numbered ls)) c.as_slice.ensures.value changes.ensures.0))
          (first_batch leaves) (c.prepare.ensures.same [] c.new-facets.ensures.index));
      leaves = all_kept c.commit-2.new.self leaves
          (c.commit-2.ensures [] (numbered leaves) []
          (subst (λ prepared. IsLeafChangeOf prepared [] (numbered leaves)) (sym c.in_ok-prepared_leaves.ensures.made)
          (subst (λ ls. IsLeafChangeOf changes.leaf_change [] (numbered ls)) c.as_slice.ensures.value changes.ensures.1))
          (λ id. c.prepare-2.ensures.same id ∙ c.new-table.ensures id));
    }
