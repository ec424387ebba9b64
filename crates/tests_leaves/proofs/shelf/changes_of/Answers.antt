use Rattle.std.proofs.Common.{rules, ◌<◌, ◌∙◌, [], ◌∷◌, length, sym, subst, arith}
use Rattle.std.proofs.lemmas.Grind.{common_steps}
use Rattle.facet_index.specs.LeavesView.{leaves_at}
use Rattle.facet_index.specs.Batches.{IsChangeFor}
use Rattle.tests_leaves.proofs.ShelfLemmas.{put_more}
use Rattle.tests_leaves.proofs.shelf.changes_of.Goals as goal

pub loop-each-preserved : goal.loop-each-preserved
loop-each-preserved c =
    let kept = c.loop-each.invariant in
    let at = c.loop-each.each-index in
    let item = c.each-item.result in
    let document = leaves_at at item.items [] in
    let inside : at < length c.args.leaves.now = first_of (omega arith, search rules) in
    let counts = kept.3 in (
      document ∷ kept.0,
      subst (λ ls. IsChangeFor c.put_in.new.self [] (leaves_at at ls [] ∷ kept.0)) c.as_slice-own.ensures.value
          (subst (λ n. IsChangeFor c.put_in.new.self [] (leaves_at n c.as_slice-own.result.now [] ∷ kept.0)) kept.3 (c.in_ok-put_in.ensures [] kept.0 kept.1)),
      c.in_ok-put_in-2.ensures document [] kept.0 (sym kept.3) (sym c.as_slice-own.ensures.value) kept.2,
      first_of (search rules, grind (arith, common_steps, counts)),
      put_more c.args.leaves.now at item _ kept.0 inside c.each-item.is ∙ kept.4,
    )
