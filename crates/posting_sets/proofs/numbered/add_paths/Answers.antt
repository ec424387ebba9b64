use Rattle.std.proofs.Common.{◌≤◌, ◌&&◌, ◌||◌, nat_eq, Some, sym, ap, ◌∙◌, arith}
use Rattle.std.specs.List.{filter, list_any}
use Rattle.std.specs.Option.{option_eq}
use Rattle.doc_sets.specs.Sets.{has}
use Rattle.posting_sets.specs.Starts.{is_inside}
use Rattle.posting_sets.specs.Numbers.{rank_at}
use Rattle.posting_sets.specs.Gathered.{is_ranked, ids_at}
use Rattle.posting_sets.proofs.NumberLemmas.{on_ok}
use Rattle.posting_sets.proofs.RankLemmas.{up_to, none_yet, part_of, all_there, one_ranked, regroup, absorb}
use Rattle.posting_sets.proofs.numbered.add_paths.Goals as goal

pub loop-path-init : goal.loop-path-init
loop-path-init c = record {
  each = λ n q. ap (λ b. b || has (ids_at n c.args.sets.now.items) q) (sym (none_yet c.args.universe.now.ids c.args.list.now.entries (is_ranked c.args.ranks.now n q)));
  few = c.requires.few;
}

pub returns-in_default-clause-each : goal.returns-in_default-clause-each
returns-in_default-clause-each c = on_ok c.add_listed.result c.add_listed.ensures.each (λ each n q.
    let ids = c.args.universe.now.ids in
    let list = c.args.list.now.entries in
    let ranks = c.args.ranks.now in
    let all = list_any (is_ranked ranks n q) (filter (is_inside ids) list) in
    let part = up_to ids list (is_ranked ranks n q) c.loop-path.path in
    let cur = has (ids_at n c.loop-path.sets.items) q in
    each n q ∙ ap (λ v. list_any (is_ranked ranks n q) (filter (is_inside ids) v.entries) || cur) c.pages.ensures
    ∙ ap (λ b. all || b) (c.loop-path.invariant.each n q)
    ∙ absorb all part (has (ids_at n c.args.sets.now.items) q) (part_of ids list (is_ranked ranks n q) c.loop-path.path))

pub loop-path-preserved : goal.loop-path-preserved
loop-path-preserved c = record {
  each = λ n q.
      let ids = c.args.universe.now.ids in
      let list = c.args.list.now.entries in
      let ranks = c.args.ranks.now in
      let i = c.loop-path.path in
      let set = c.in-Some.set.now.ids in
      let old = has (ids_at n c.args.sets.now.items) q in
      let this = option_eq nat_eq (rank_at ranks i) (Some n) && (has ids q && has set q) in
      c.in_ok-add_path.ensures.each n q
      ∙ ap (λ r. (option_eq nat_eq r (Some n) && (has ids q && has set q)) || has (ids_at n c.loop-path.sets.items) q) c.rank_of.ensures
      ∙ ap (λ b. this || b) (c.loop-path.invariant.each n q)
      ∙ regroup this (up_to ids list (is_ranked ranks n q) i) old
      ∙ ap (λ b. b || old) (one_ranked ids list ranks n q i set c.in-Some.ensures);
  few = c.in_ok-add_path.ensures.few;
}

pub returns-clause-each : goal.returns-clause-each
returns-clause-each c = λ n q.
    let limit : c.args.limit ≤ c.loop-path.path = c.loop-path-test.false in
    c.loop-path.invariant.each n q
    ∙ ap (λ b. b || has (ids_at n c.args.sets.now.items) q)
    (all_there c.args.universe.now.ids c.args.list.now.entries (is_ranked c.args.ranks.now n q) c.loop-path.path (λ entry there. let below = c.requires.limit entry there in omega arith))
