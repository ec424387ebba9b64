use Rattle.std.proofs.Common.{◌+◌, ◌≤◌, map}
use Rattle.std.specs.Cmp.Lexicographic.{slice_cmp}
use Rattle.std.specs.List.Sorted.{IsStrictlySortedBy}
use Rattle.std.specs.Map.{keys_of}
use Rattle.std.specs.Ordering.{nat_cmp}
use Rattle.index_image.specs.Rows.{index_view}
use Rattle.named_indexes.specs.Images.{documents_of}
use Rattle.named_indexes.proofs.Listing.{IsOpening}
use Rattle.named_indexes.proofs.images.entries_of.Given as goal

-- the indexes so far, in order, are of the rows so far; and with the documents that are left no more are read than there are
abbrev pub invariant-loop-row : goal.invariant-loop-row
invariant-loop-row g l =
    let all = map index_view l.initial.row-iterator.rest.items in
    let left = map index_view l.row-iterator.rest.items in
    record {
      so_far : IsOpening all left l.entries.entries;
      ordered : IsStrictlySortedBy (slice_cmp nat_cmp) (keys_of l.entries.entries);
      read : l.fetches + documents_of left ≤ l.initial.fetches + documents_of all;
    }
