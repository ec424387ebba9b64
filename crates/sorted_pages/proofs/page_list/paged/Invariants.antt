use Rattle.std.proofs.Common.{◌≡◌, ◌++◌, length}
use Rattle.sorted_pages.specs.Pages.{flat, AllFull}
use Rattle.sorted_pages.proofs.page_list.paged.Given as goal

abbrev pub invariant-loop-left : goal.invariant-loop-left
invariant-loop-left l = record {
  told : flat l.pages.items ++ l.left ≡ l.numbers;
  full : AllFull l.pages.items;
}

abbrev pub decreases-loop-left : goal.decreases-loop-left
decreases-loop-left l = length l.left
