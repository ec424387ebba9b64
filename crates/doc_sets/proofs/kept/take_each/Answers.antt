use Rattle.std.proofs.Common.{◌+◌, drop, get_or, sym, ap, subst, ◌∙◌, arith}
use Rattle.std.proofs.lemmas.List.{drop_more, drop_all}
use Rattle.doc_sets.specs.Sets.{IsIncreasing, difference}
use Rattle.doc_sets.proofs.SetLemmas.{increasing-out, minus-without_id, minus-nil}
use Rattle.doc_sets.proofs.kept.take_each.Goals as goal

pub loop-id-preserved : goal.loop-id-preserved
loop-id-preserved c =
    let ids = c.args.ids.now in
    let i = c.loop-id.id-index in
    record {
      same = ap (λ v. difference v (drop (i + 1) ids)) c.take_one-taken.ensures.ids ∙ minus-without_id (get_or ids i 0) (drop (i + 1) ids) c.loop-id.bits.ids c.loop-id.invariant.up
          ∙ ap (difference c.loop-id.bits.ids) (sym (drop_more ids i 0 c.loop-id-test.true)) ∙ c.loop-id.invariant.same;
      few = omega (arith, c.loop-id.invariant.few, c.take_one-taken.ensures.one);
      count = omega (arith, c.loop-id.invariant.count, c.take_one-taken.ensures.count);
      up = subst IsIncreasing (sym c.take_one-taken.ensures.ids) (increasing-out (get_or ids i 0) c.loop-id.bits.ids c.loop-id.invariant.up);
    }

pub returns-clause-ids : goal.returns-clause-ids
returns-clause-ids c = sym (minus-nil c.loop-id.bits.ids) ∙ ap (difference c.loop-id.bits.ids) (sym (drop_all c.loop-id.id-index c.args.ids.now c.loop-id-test.false)) ∙ c.loop-id.invariant.same
