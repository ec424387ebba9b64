use Rattle.std.proofs.Common.{◌≡◌}
use Rattle.std.specs.List.{AllByRecursion}
use Rattle.postings.specs.Prefixes.{rows_left}
use Rattle.list_facets.proofs.KeyLemmas.{IsRowIn, has_row}
use Rattle.list_facets.proofs.spellings.shown_from.Given as goal

abbrev pub invariant-loop-key : goal.invariant-loop-key
invariant-loop-key l = record {
  rows : AllByRecursion (IsRowIn l.fn.first l.keys) (rows_left l.key-iterator);
  none : has_row l.id.0 (rows_left l.key-iterator) ≡ has_row l.id.0 (rows_left l.initial.key-iterator);
}
