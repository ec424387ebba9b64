use Rattle.std.proofs.Common.{sym, ap, ◌∙◌}
use Rattle.std.proofs.lemmas.Bool.{eqb-true}
use Rattle.std.proofs.lemmas.List.{nil_from_length}
use Rattle.sorted_pages.specs.Entries.{difference}
use Rattle.sorted_pages.proofs.SetLemmas.{minus-nil}
use Rattle.sorted_pages.proofs.page.strike_out.Goals as goal

pub returns-then-is_empty : goal.returns-then-is_empty
returns-then-is_empty c =
    let none = nil_from_length c.args.gone.now (eqb-true _ _ (sym c.is_empty.ensures ∙ c.if-is_empty.true)) in
    sym (ap (difference c.args.page.now.items) none ∙ minus-nil c.args.page.now.items)
