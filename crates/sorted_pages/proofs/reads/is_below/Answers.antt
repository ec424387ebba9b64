use Rattle.std.proofs.Common.{◌∷◌, [], sym, ◌∙◌}
use Rattle.std.proofs.lemmas.Bool.{eqb-true, ltb-true, ltb-false}
use Rattle.sorted_pages.proofs.RunLemmas.{below-empty, below-last, on_true}
use Rattle.sorted_pages.proofs.WholeLemmas.{on_false}
use Rattle.sorted_pages.proofs.reads.is_below.Goals as goal

pub returns-then-is_empty-clause-below : goal.returns-then-is_empty-clause-below
returns-then-is_empty-clause-below c = below-empty c.args.page.now (c.args.least ∷ []) (eqb-true _ _ (sym c.is_empty.ensures ∙ c.if-is_empty.true))

pub returns-clause-below : goal.returns-clause-below
returns-clause-below c = on_true _ _ (λ e. below-last c.args.page.now (c.args.least ∷ []) c.requires (tt, tt) (ltb-true _ _ e))

pub returns-clause-over : goal.returns-clause-over
returns-clause-over c = on_false _ _ (λ e. ltb-false _ _ e)
