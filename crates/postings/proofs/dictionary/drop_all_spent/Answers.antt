use Rattle.std.proofs.Common.{◌+◌, ◌<◌, drop, length, subst, ◌∙◌, arith}
use Rattle.postings.specs.Dictionary.{lists_of, IsTight}
use Rattle.postings.proofs.TightLemmas.{tight_less, drop_one}
use Rattle.postings.proofs.dictionary.drop_all_spent.Goals as goal

pub loop-row-preserved : goal.loop-row-preserved
loop-row-preserved c =
    let rows = c.args.rows.now in
    let i = c.loop-row.row-index in
    let x = c.row-item.result in
    let inside : i < length rows = omega arith in
    record {
      numbered = c.drop_spent.ensures.numbered;
      lists = λ w. c.drop_spent.ensures.lists w ∙ c.loop-row.invariant.lists w;
      tight = λ h. tight_less x (drop (i + 1) rows) (lists_of c.loop-row.lists) (lists_of c.drop_spent.new.lists) c.drop_spent.ensures.tight c.drop_spent.ensures.others
          (subst (λ v. IsTight v (lists_of c.loop-row.lists)) (drop_one rows i x inside c.row-item.is) (c.loop-row.invariant.tight h));
    }
