use Rattle.std.proofs.Common.{◌≡◌, ◌<◌, ◌++◌, length, sym, ap, ◌∙◌, arith}
use Rattle.std.proofs.lemmas.Bool.{eqb-false}
use Rattle.index_settings.proofs.Endings.{before_none, before_some}
use Rattle.index_settings.proofs.rule.before.Goals as goal

pub returns-else-is_empty : goal.returns-else-is_empty
returns-else-is_empty c =
    let h = c.in-Some.ensures.cases in
    let start = c.in-Some.start.now in
    let is : c.args.text.now ≡ start ++ c.args.ending.now = h.1.1 ∙ ap (λ s. s ++ c.args.ending.now) (sym h.2) in
    let some : 0 < length start = omega (arith, eqb-false (length start) 0 (sym c.is_empty.ensures ∙ c.if-is_empty.false)) in
    sym (before_some c.args.ending.now c.args.text.now start is some)

pub returns-in-None : goal.returns-in-None
returns-in-None c = sym (before_none c.args.ending.now c.args.text.now c.in-None.ensures.cases)
