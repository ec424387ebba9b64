-- Conditions, which are tests of the values under a path.
use Rattle.std.specs.Prelude.{◌≡◌, Bool, true}
use Rattle.search_base.specs.RowsView.{RowsView}
use Rattle.search_base.specs.SortKeys.{leaves_under}
use Rattle.filter_tree.specs.View.{test_view}
use Rattle.row_filter.specs.Holds.{meets, marks_under}
use Rattle.filter_sets.specs.declared.conditions.Condition.{Condition}

-- whether a document with these rows meets a condition
abbrev pub is_met : RowsView → Condition → Bool
is_met rows condition = meets (test_view condition.test.now) (leaves_under condition.path.0 rows.leaves)
    (marks_under condition.path.0 rows.marks)

-- what meets the one meets the other
abbrev pub Implies : Condition → Condition → Type 0
Implies condition other = (rows : RowsView) → is_met rows condition ≡ true → is_met rows other ≡ true
