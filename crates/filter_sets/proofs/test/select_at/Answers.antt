use Rattle.std.proofs.Common.{sym, subst}
use Rattle.std.specs.List.{list_any}
use Rattle.std.specs.Result.{IfOk}
use Rattle.search_base.specs.SortKeys.{leaves_under}
use Rattle.filter_tree.specs.View.{test_view}
use Rattle.row_filter.specs.Holds.{meets, is_equal, some_value, marks_under}
use Rattle.filter_sets.specs.Selects.{Selects}
use Rattle.filter_sets.proofs.test.select_at.Goals as goal

pub returns-in-OneOf : goal.returns-in-OneOf
returns-in-OneOf c =
    subst (λ test. IfOk c.one_of.result (λ docs. Selects c.args.facets.now
    (λ rows. meets (test_view test) (leaves_under c.args.path.0 rows.leaves) (marks_under c.args.path.0 rows.marks)) c.args.all.now.ids docs.ids)) (sym c.in-OneOf.is)
    (subst (λ texts. IfOk c.one_of.result (λ docs. Selects c.args.facets.now
    (λ rows. list_any (λ text. some_value (is_equal text) (leaves_under c.args.path.0 rows.leaves)) texts) c.args.all.now.ids docs.ids)) c.as_slice.ensures.value
    c.one_of.ensures)

pub returns-in-Between : goal.returns-in-Between
returns-in-Between c =
    subst (λ test. IfOk c.between.result (λ docs. Selects c.args.facets.now
    (λ rows. meets (test_view test) (leaves_under c.args.path.0 rows.leaves) (marks_under c.args.path.0 rows.marks)) c.args.all.now.ids docs.ids)) (sym c.in-Between.is)
    c.between.ensures
