use Rattle.std.proofs.Common.{[], sym, subst, map, arith}
use Rattle.row_index.specs.Changes.{IsChangeOf}
use Rattle.doc_index.specs.Documents.{indexed}
use Rattle.doc_index.proofs.LastLemmas.{drop-before}
use Rattle.doc_index.proofs.change.take_out.Goals as goal

pub loop-i-preserved : goal.loop-i-preserved
loop-i-preserved c =
    let stored = c.args.stored.now in
    let here = drop-before stored c.loop-i.i c.index-stored-i.result c.loop-i-test.true c.loop-i.invariant.within c.index-stored-i.is in
    record {
      within = omega (arith, c.loop-i.invariant.within);
      change = subst (λ rows. IsChangeOf c.take_one.new.change (map (λ r. indexed c.args.paths.now c.args.uses.now r.id.0 r.text) rows) []) (sym here)
          (c.in_ok-take_one.ensures _ _ c.loop-i.invariant.change);
    }
