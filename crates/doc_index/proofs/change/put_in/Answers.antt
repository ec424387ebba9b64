use Rattle.std.proofs.Common.{◌≡◌, sym, ap₂, subst, map, drop, arith}
use Rattle.row_index.specs.Changes.{IsChangeOf}
use Rattle.doc_index.specs.Last.{last_of, AreTheirIds}
use Rattle.doc_index.proofs.LastLemmas.{drop-before, map-drop-before}
use Rattle.doc_index.proofs.change.put_in.Goals as goal

pub loop-i-preserved : goal.loop-i-preserved
loop-i-preserved c =
    let i = c.loop-i.i in
    let ids = map-drop-before c.args.ids.now i c.loop-i-test.true c.loop-i.invariant.within in
    let documents = drop-before c.args.documents.now i c.index-documents-i.result c.loop-i-test.true (omega (arith, c.loop-i.invariant.within, c.requires.many)) c.index-documents-i.is in
    let here = ap₂ (last_of c.args.paths.now c.args.uses.now) ids documents in
    record {
      within = omega (arith, c.loop-i.invariant.within);
      change = λ gone is. subst (IsChangeOf c.put_last.new.change gone) (sym here) (c.in_ok-put_last.ensures.change gone _ (c.loop-i.invariant.change gone is) c.loop-i.invariant.later);
      later = subst (AreTheirIds c.put_last.new.later.ids) (sym here) (c.in_ok-put_last.ensures.later _ c.loop-i.invariant.later);
    }

pub returns : goal.returns
returns c =
    λ gone is.
    let start : c.loop-i.i ≡ 0 = omega (arith, c.loop-i-test.false) in
    subst (λ n. IsChangeOf c.loop-i.change gone (last_of c.args.paths.now c.args.uses.now (drop n (map (λ id. id.0) c.args.ids.now)) (drop n c.args.documents.now))) start
    (c.loop-i.invariant.change gone is)
