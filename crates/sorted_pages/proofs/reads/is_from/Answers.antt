use Rattle.std.proofs.Common.{◌≤◌, get_or, leb, sym, ap, subst, ◌∙◌, arith}
use Rattle.std.specs.Option.{option_copied}
use Rattle.std.proofs.lemmas.Bool.{leb-true, leb-false}
use Rattle.sorted_pages.specs.Entries.{AreAbove}
use Rattle.sorted_pages.proofs.RunLemmas.{on_true}
use Rattle.sorted_pages.proofs.PageLemmas.{above-head}
use Rattle.sorted_pages.proofs.WholeLemmas.{first_none, first_some, on_false}
use Rattle.sorted_pages.proofs.reads.is_from.Goals as goal

pub returns-in-Some-clause-some : goal.returns-in-Some-clause-some
returns-in-Some-clause-some c =
    let first = first_some c.args.page.now c.in-Some.first.now (sym c.first.ensures.value ∙ ap option_copied c.in-Some.is) in
    on_true _ _ (λ e. first.0)

pub returns-in-Some-clause-from : goal.returns-in-Some-clause-from
returns-in-Some-clause-from c =
    let first = first_some c.args.page.now c.in-Some.first.now (sym c.first.ensures.value ∙ ap option_copied c.in-Some.is) in
    on_true (leb c.in-Some.first.now c.args.least) (get_or c.args.page.now 0 0 ≤ c.args.least) (λ e. let l = leb-true c.in-Some.first.now c.args.least e in omega (arith, first.1, l))

pub returns-in-Some-clause-above : goal.returns-in-Some-clause-above
returns-in-Some-clause-above c =
    let first = first_some c.args.page.now c.in-Some.first.now (sym c.first.ensures.value ∙ ap option_copied c.in-Some.is) in
    on_false (leb c.in-Some.first.now c.args.least) (AreAbove c.args.least c.args.page.now) (λ e.
    let l = leb-false c.in-Some.first.now c.args.least e in
    above-head c.args.least c.args.page.now c.requires (omega (arith, first.1, l)))

pub returns-in-None-clause-above : goal.returns-in-None-clause-above
returns-in-None-clause-above c =
    let none = first_none c.args.page.now (sym c.first.ensures.value ∙ ap option_copied c.in-None.is) in
    subst (AreAbove c.args.least) (sym none) tt
