use Rattle.std.proofs.Common.{ℕ, Bool, sym, subst, ◌∙◌}
use Rattle.leaf_table.specs.Columns.{leaves_in}
use Rattle.leaf_table.specs.Numbers.{has_between}
use Rattle.leaf_table.proofs.NumberLemmas.{IsSifted, one_passes, one_fails}
use Rattle.leaf_table.proofs.numbers.between.Goals as goal

pub loop-id-preserved-in-Continue-branch-2 : goal.loop-id-preserved-in-Continue-branch-2
loop-id-preserved-in-Continue-branch-2 c =
    let passes : ℕ → Bool = λ d. has_between c.args.range.now.path.0 c.args.range.now.low c.args.range.now.high (leaves_in d c.args.rows.now.rows) in
    subst (IsSifted passes c.args.universe.now.ids c.next.new.self) (sym c.in_ok-add_id.ensures.ids)
    (one_passes passes c.args.universe.now.ids c.in-Some.id.0 c.next.new.self c.loop-id.found
    (subst (λ left. IsSifted passes c.args.universe.now.ids left c.loop-id.found) c.in-Some.ensures.steps c.loop-id.invariant)
    (sym c.is_inside.ensures ∙ c.if-is_inside.true))

pub loop-id-preserved : goal.loop-id-preserved
loop-id-preserved c =
    let passes : ℕ → Bool = λ d. has_between c.args.range.now.path.0 c.args.range.now.low c.args.range.now.high (leaves_in d c.args.rows.now.rows) in
    one_fails passes c.args.universe.now.ids c.in-Some.id.0 c.next.new.self c.loop-id.found
    (subst (λ left. IsSifted passes c.args.universe.now.ids left c.loop-id.found) c.in-Some.ensures.steps c.loop-id.invariant)
    (sym c.is_inside.ensures ∙ c.if-is_inside.false)
