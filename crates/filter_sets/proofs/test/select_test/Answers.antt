use Rattle.std.proofs.Common.{sym, ap, false}
use Rattle.std.specs.Option.{option_map}
use Rattle.filter_tree.specs.View.{test_view}
use Rattle.row_filter.specs.Holds.{meets_at}
use Rattle.filter_sets.proofs.TestLemmas.{none_at, selects_same}
use Rattle.filter_sets.proofs.test.select_test.Goals as goal

pub returns-in-None : goal.returns-in-None
returns-in-None c =
    selects_same c.args.facets.now (λ rows. false) (λ rows. meets_at (test_view c.args.test.now) rows (option_map (λ p. p.0) c.args.path)) c.args.all.now.ids
    c.new.result.ids (λ rows. ap (λ o. meets_at (test_view c.args.test.now) rows (option_map (λ p. p.0) o)) (sym c.in-None.is))
    (none_at c.args.facets.now c.args.all.now.ids c.new.result.ids c.new.ensures)
