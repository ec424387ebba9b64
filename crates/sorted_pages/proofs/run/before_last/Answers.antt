use Rattle.std.proofs.Common.{ℕ, List, Some, take, drop, get_or, refl, sym, ap, subst, ◌∙◌, arith}
use Rattle.std.specs.Option.{option_copied}
use Rattle.std.proofs.lemmas.Bool.{eqb-false}
use Rattle.sorted_pages.specs.Rooms.{AreBefore, AreBeyond}
use Rattle.sorted_pages.proofs.WholeLemmas.{first_none, first_some, beyond_zero}
use Rattle.sorted_pages.proofs.run.before_last.Goals as goal

pub returns-in-None-clause-cut : goal.returns-in-None-clause-cut
returns-in-None-clause-cut c =
    let none = first_none c.args.last.now (sym c.first.ensures.value ∙ ap option_copied c.in-None.is) in
    record {
      none = λ z. refl;
      taken = tt;
      over = λ l. subst (λ (v : List ℕ). AreBeyond (Some (get_or v 0 0)) c.args.come.now) (sym none) (beyond_zero c.args.come.now);
    }

pub returns-in-Some-clause-cut : goal.returns-in-Some-clause-cut
returns-in-Some-clause-cut c =
    let first = (first_some c.args.last.now c.in-Some.first.now (sym c.first.ensures.value ∙ ap option_copied c.in-Some.is)).1 in
    let n = c.count_before.result in
    record {
      none = λ z. absurd (omega (arith, z, eqb-false _ _ (sym c.is_empty.ensures ∙ c.if-is_empty.false)));
      taken = subst (λ (k : ℕ). AreBefore (Some k) (take n c.args.come.now)) (sym first) c.count_before.ensures.taken;
      over = λ l. subst (λ (k : ℕ). AreBeyond (Some k) (drop n c.args.come.now)) (sym first) c.count_before.ensures.over;
    }
