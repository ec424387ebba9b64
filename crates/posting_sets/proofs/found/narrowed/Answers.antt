use Rattle.std.proofs.Common.{IfSome, sym, subst}
use Rattle.doc_sets.specs.SetView.{SetView}
use Rattle.posting_sets.specs.Found.{IsNarrowed}
use Rattle.posting_sets.proofs.NarrowLemmas.{base_of, itself_narrowed, next_narrowed}
use Rattle.posting_sets.proofs.found.narrowed.Goals.{in-Some+in_ok-set, in_default}
use Rattle.posting_sets.proofs.found.narrowed.Goals as goal

pub loop-word-preserved : goal.loop-word-preserved
loop-word-preserved c =
    let view = c.args.postings.now in
    let words = c.args.words.now in
    let ids = c.args.universe.now.ids in
    let P : SetView → Type 0 = λ set. IsNarrowed view words ids set.ids in
    elim c.match-kept_of.branch [
      | in-Some+in_ok-set w ↦ subst (λ v. IfSome v P) (sym w.narrow-is)
          (next_narrowed view words c.word-item.result c.loop-word.word-index c.loop-word-test.true c.word-item.is w.in-Some.kept.now.ids w.in-Some.ensures ids w.unwrap_or.result.now.ids w.in_ok-set.set.ids
          (base_of P w.as_ref.result c.loop-word.narrow w.as_ref.ensures.value c.loop-word.invariant c.args.universe w.unwrap_or.result (itself_narrowed view words ids) w.unwrap_or.ensures)
          w.in_ok-set.ensures)
      | in_default w ↦ subst (λ v. IfSome v P) (sym w.narrow-is) c.loop-word.invariant
    ]
