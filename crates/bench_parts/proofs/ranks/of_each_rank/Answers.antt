use Rattle.std.proofs.Common.{◌≡◌, ◌∷◌, ◌+◌, List, ap, sym, subst, drop, ◌∙◌, arith}
use Rattle.std.proofs.lemmas.List.{drop_more, drop_all}
use Rattle.doc_sets.specs.Sets.{intersection}
use Rattle.doc_sets.specs.SetView.{SetView}
use Rattle.bench_parts.proofs.RankLemmas.{AreRows, set_or, from_rank, from-first, rows-more, rows-end}
use Rattle.bench_parts.proofs.ranks.of_each_rank.Goals as goal

pub loop-set-init : goal.loop-set-init
loop-set-init c n =
    let universe = c.args.universe.now.ids in
    let sets = c.args.sets.now in
    let plain : n ≡ 0 + n = omega arith in
    ap (λ l. set_or n l (intersection universe (from_rank 0 n sets))) c.new-rows.ensures.items
    ∙ ap (intersection universe) (ap (λ k. from_rank 0 k sets) plain ∙ from-first sets 0 n)

pub loop-set-preserved : goal.loop-set-preserved
loop-set-preserved c =
    let universe = c.args.universe.now.ids in
    let sets = c.args.sets.now in
    let i = c.loop-set.set-index in
    let item = c.set-item.result in
    let whole = drop_more sets i item c.loop-set-test.true ∙ ap (λ v. v ∷ drop (i + 1) sets) (sym c.set-item.is) in
    rows-more universe sets c.loop-set.rank c.loop-set.rows.items c.push.new.self.items c.in_ok-both.both item (drop (i + 1) sets)
    c.in_ok-both.ensures c.in_ok-push.ensures.items
    (subst (λ (rest : List SetView). AreRows universe sets c.loop-set.rank c.loop-set.rows.items rest) whole c.loop-set.invariant)

pub returns : goal.returns
returns c =
    let universe = c.args.universe.now.ids in
    let sets = c.args.sets.now in
    rows-end universe sets c.loop-set.rank c.loop-set.rows.items
    (subst (λ (rest : List SetView). AreRows universe sets c.loop-set.rank c.loop-set.rows.items rest) (drop_all c.loop-set.set-index sets c.loop-set-test.false) c.loop-set.invariant)
