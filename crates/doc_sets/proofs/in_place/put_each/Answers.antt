use Rattle.std.proofs.Common.{◌+◌, drop, get_or, sym, ap, subst, ◌∙◌, arith}
use Rattle.std.proofs.lemmas.List.{drop_more}
use Rattle.doc_sets.specs.Sets.{IsIncreasing, union}
use Rattle.doc_sets.proofs.SetLemmas.{increasing-put, or-with_id}
use Rattle.doc_sets.proofs.in_place.put_each.Goals as goal

pub loop-id-preserved : goal.loop-id-preserved
loop-id-preserved c =
    let ids = c.args.ids.now in
    let i = c.loop-id.id-index in
    record {
      same = ap (union (drop (i + 1) ids)) c.put_one-new.ensures.ids ∙ or-with_id (get_or ids i 0) (drop (i + 1) ids) c.loop-id.bits.ids c.loop-id.invariant.up
          ∙ ap (λ v. union v c.loop-id.bits.ids) (sym (drop_more ids i 0 c.loop-id-test.true)) ∙ c.loop-id.invariant.same;
      few = omega (arith, c.loop-id.invariant.few, c.put_one-new.ensures.one);
      count = omega (arith, c.loop-id.invariant.count, c.put_one-new.ensures.count);
      limit = c.put_one-new.ensures.limit ∙ c.loop-id.invariant.limit;
      up = subst IsIncreasing (sym c.put_one-new.ensures.ids) (increasing-put (get_or ids i 0) c.loop-id.bits.ids c.loop-id.invariant.up);
    }
