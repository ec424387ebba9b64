use Rattle.std.proofs.Common.{◌≡◌, ◌+◌, ◌∷◌, length, map, ap, subst, arith}
use Rattle.index_image.specs.Rows.{index_view}
use Rattle.named_indexes.specs.Images.{documents_of}
use Rattle.named_indexes.proofs.Listing.{IsOpening, opened_more}
use Rattle.named_indexes.proofs.images.entries_of.Goals as goal

pub loop-row-preserved : goal.loop-row-preserved
loop-row-preserved g c =
    let all = map index_view c.into_iter-row-iterator.result.rest.items in
    let row = index_view c.in-Some.row in
    let left = map index_view c.next.new.self.rest.items in
    let here : map index_view c.loop-row.row-iterator.rest.items ≡ row ∷ left = ap (map index_view) c.in-Some.ensures.steps.0 in
    let count : documents_of (map index_view c.loop-row.row-iterator.rest.items) ≡ length row.documents + documents_of left = ap documents_of here in
    let so_far : IsOpening all (row ∷ left) c.loop-row.entries.entries = subst (λ v. IsOpening all v c.loop-row.entries.entries) here c.loop-row.invariant.so_far in
    record {
      so_far = opened_more all left c.loop-row.entries.entries c.put_index.new.entries.entries row so_far c.loop-row.invariant.ordered c.in_ok-put_index.ensures.put;
      ordered = c.in_ok-put_index.ensures.ordered;
      read = omega (arith, c.loop-row.invariant.read, c.in_ok-put_index.ensures.fetched, count);
    }
