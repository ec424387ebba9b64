use Rattle.std.proofs.Common.{◌≡◌, ℕ, ◌≤◌, ◌++◌, length, map}
use Rattle.std.specs.List.{AllByRecursion}
use Rattle.search_base.specs.RowsView.{RowsView}
use Rattle.postings.specs.Prefixes.{rows_left}
use Rattle.list_facets.specs.Rows.{AreRowsIn, rows_if}
use Rattle.list_facets.proofs.KeyLemmas.{IsRowIn, texts_of}
use Rattle.list_facets.proofs.rows.rows_from.Given as goal

abbrev pub invariant-loop-key : goal.invariant-loop-key
invariant-loop-key l = record {
  rows : AllByRecursion (IsRowIn l.fn.first l.keys) (rows_left l.key-iterator);
  few : length l.found.items ≤ l.query.most;
  found : (row : ℕ → RowsView) → AreRowsIn l.keys row
      → l.found.items ++ rows_if l.query.path.0 (map row l.matching.ids) (texts_of l.fn.first (rows_left l.key-iterator))
      ≡ rows_if l.query.path.0 (map row l.matching.ids) (texts_of l.fn.first (rows_left l.initial.key-iterator));
}
