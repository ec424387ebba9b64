use Rattle.std.proofs.Common.{rules, ◌≤◌, ◌<◌, ◌++◌, ◌∙◌, length, drop, take, map, ap, sym, subst, arith}
use Rattle.std.specs.List.{AllByRecursion}
use Rattle.std.proofs.lemmas.Grind.{common_steps}
use Rattle.postings.specs.Prefixes.{rows_left}
use Rattle.list_facets.specs.Rows.{rows_if, listed}
use Rattle.list_facets.proofs.KeyLemmas.{IsRowIn, texts_of, begins, rows_of_query, rows_answer, row_more, row_less, still_few}
use Rattle.list_facets.proofs.TextLemmas.{enough_rows, all_rows}
use Rattle.list_facets.proofs.rows.rows_from.Goals as goal

pub loop-key-init : goal.loop-key-init
loop-key-init c =
    let items = c.with_prefix-key-items in
    record {
      rows = subst (λ l. AllByRecursion (IsRowIn c.args.first.now c.args.keys.now) (rows_left l)) (sym c.into_iter-key-iterator.ensures.into_iter_gives)
          (rows_of_query c.args.keys.now c.args.query.now c.args.first.now c.args.begin.now (rows_left items.result) c.requires.first c.requires.begin
          items.ensures.order items.ensures.lists);
      few = subst (λ xs. length xs ≤ c.args.query.now.most) (sym c.new-found.ensures.items) (omega arith);
      found = λ row are. ap (λ xs. xs ++ rows_if c.args.query.now.path.0 (map row c.args.matching.now.ids)
          (texts_of c.args.first.now (rows_left c.into_iter-key-iterator.result))) c.new-found.ensures.items;
    }

pub returns-then-len-query : goal.returns-then-len-query
returns-then-len-query c = λ row are.
    let items = c.with_prefix-key-items in
    let many : c.args.query.now.most ≤ length c.loop-key.found.items = first_of (omega arith, search rules, grind (arith, common_steps)) in
    enough_rows c.args.query.now.most c.loop-key.found.items _ _ (c.loop-key.invariant.found row are) c.loop-key.invariant.few many
    ∙ ap (λ l. take c.args.query.now.most (rows_if c.args.query.now.path.0 (map row c.args.matching.now.ids) (texts_of c.args.first.now (rows_left l))))
    c.into_iter-key-iterator.ensures.into_iter_gives
    ∙ rows_answer c.keys_tell_facets_apart.ensures c.args.keys.now c.args.query.now c.args.first.now c.args.begin.now (rows_left items.result) row
    c.args.matching.now.ids are c.requires.narrow c.requires.first c.requires.begin items.ensures.order items.ensures.lists

pub loop-key-preserved-in-Continue-branch-3 : goal.loop-key-preserved-in-Continue-branch-3
loop-key-preserved-in-Continue-branch-3 c =
    let left = subst (AllByRecursion (IsRowIn c.args.first.now c.args.keys.now)) c.in-Some.ensures.steps c.loop-key.invariant.rows in
    let less : length c.loop-key.found.items < c.args.query.now.most = first_of (omega arith, search rules, grind (arith, common_steps)) in
    record {
      rows = left.1;
      few = still_few c.args.query.now.most c.loop-key.found.items c.push.new.self.items c.in-Some-2.row c.in_ok-push-in-Some-2.ensures.items less;
      found = λ row are.
          row_more c.loop-key.found.items c.push.new.self.items _ _ _ c.in-Some-2.row c.in_ok-push-in-Some-2.ensures.items
          (ap listed (sym c.in-Some-2.is)
          ∙ c.in_ok-row.ensures row (drop (length c.args.first.now) c.in-Some.key.now) are (begins c.args.first.now c.in-Some.key.now left.0.0) left.0.1)
          (ap (λ rs. c.loop-key.found.items ++ rows_if c.args.query.now.path.0 (map row c.args.matching.now.ids) (texts_of c.args.first.now rs)) (sym c.in-Some.ensures.steps)
          ∙ c.loop-key.invariant.found row are);
    }

pub loop-key-preserved : goal.loop-key-preserved
loop-key-preserved c =
    let left = subst (AllByRecursion (IsRowIn c.args.first.now c.args.keys.now)) c.in-Some.ensures.steps c.loop-key.invariant.rows in
    record {
      rows = left.1;
      few = c.loop-key.invariant.few;
      found = λ row are.
          row_less c.loop-key.found.items _ _ _
          (ap listed (sym c.in-None-2.is)
          ∙ c.in_ok-row.ensures row (drop (length c.args.first.now) c.in-Some.key.now) are (begins c.args.first.now c.in-Some.key.now left.0.0) left.0.1)
          (ap (λ rs. c.loop-key.found.items ++ rows_if c.args.query.now.path.0 (map row c.args.matching.now.ids) (texts_of c.args.first.now rs)) (sym c.in-Some.ensures.steps)
          ∙ c.loop-key.invariant.found row are);
    }

pub returns : goal.returns
returns c = λ row are.
    let items = c.with_prefix-key-items in
    all_rows c.args.query.now.most c.loop-key.found.items _ _ (c.loop-key.invariant.found row are) c.loop-key.invariant.few
    (ap (λ rs. rows_if c.args.query.now.path.0 (map row c.args.matching.now.ids) (texts_of c.args.first.now rs)) c.in-None.ensures.steps.0)
    ∙ ap (λ l. take c.args.query.now.most (rows_if c.args.query.now.path.0 (map row c.args.matching.now.ids) (texts_of c.args.first.now (rows_left l))))
    c.into_iter-key-iterator.ensures.into_iter_gives
    ∙ rows_answer c.keys_tell_facets_apart.ensures c.args.keys.now c.args.query.now c.args.first.now c.args.begin.now (rows_left items.result) row
    c.args.matching.now.ids are c.requires.narrow c.requires.first c.requires.begin items.ensures.order items.ensures.lists
