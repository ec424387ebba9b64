use Rattle.std.proofs.Common.{◌≡◌, ◌-◌, [], drop, subst, arith}
use Rattle.row_index.specs.Standing.{StandsFor}
use Rattle.row_index.specs.Changes.{IsChangeOf}
use Rattle.tests_ranking.specs.Shelves.{shelved, shelved_from}
use Rattle.tests_ranking.proofs.ShelfLemmas.{all_there, one_more, first_batch, after_first}
use Rattle.tests_ranking.proofs.shelves.shelf_of.Goals as goal

pub loop-at-preserved : goal.loop-at-preserved
loop-at-preserved c =
    let rows = c.args.rows.items in (
      omega arith,
      subst (IsChangeOf c.put_in.new.self [])
          (one_more rows (c.loop-at.at - 1) c.loop-at.at c.index.result.now (omega arith) (omega arith) c.index.ensures)
          (c.in_ok-put_in.ensures [] (shelved_from c.loop-at.at (drop c.loop-at.at rows)) c.loop-at.invariant.1),
    )

pub invariant_of-result : goal.invariant_of-result
invariant_of-result c =
    let rows = c.args.rows.items in
    let first : c.loop-at.at ≡ 0 = omega arith in
    record {
      stands = subst (StandsFor c.commit.new.self) (after_first rows)
          (c.commit.ensures.stands [] (shelved rows) []
          (c.in_ok-prepared.ensures.made [] (shelved rows) (subst (λ n. IsChangeOf c.loop-at.change [] (shelved_from n (drop n rows))) first c.loop-at.invariant.1))
          (first_batch rows) (c.prepare.ensures.same [] c.new-index.ensures.stands));
      have = (all_there c.args.ranks.items 0 rows c.requires.ranks).0;
      below = (all_there c.args.ranks.items 0 rows c.requires.ranks).1;
    }
