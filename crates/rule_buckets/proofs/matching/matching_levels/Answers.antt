use Rattle.std.proofs.Common.{◌≡◌, ◌<◌, ◌+◌, ℕ, List, refl, sym, subst, ◌∙◌, ◌&&◌, arith}
use Rattle.std.specs.List.{slice_get}
use Rattle.search_base.specs.WordsCost.{level_matches}
use Rattle.doc_sets.specs.Sets.{has}
use Rattle.doc_sets.specs.SetView.{SetView}
use Rattle.rule_buckets.proofs.Members.{told}
use Rattle.rule_buckets.proofs.Levels.{AreFirst, first-more, levels-are}
use Rattle.rule_buckets.proofs.matching.matching_levels.Goals as goal

pub loop-level-preserved : goal.loop-level-preserved
loop-level-preserved g c =
    let rows = g.S.RuleSource.rows c.args.source.now in
    let lvs = c.args.graph.now.levels in
    let docs = c.in_ok-docs.docs in
    subst (λ (l : List SetView). AreFirst rows lvs c.args.universe.now.ids (c.loop-level.level + 1) l c.subtract.new.self.ids) (sym c.in_ok-push-2.ensures.items)
    (first-more rows lvs c.args.universe.now.ids c.loop-level.level c.loop-level.levels.items docs.ids c.loop-level.rest.ids c.subtract.new.self.ids docs
    (subst (λ n. c.loop-level.level < n) c.level_count-count.ensures c.loop-level-test.true) c.loop-level.invariant refl
    (λ view e. told (λ v. (d : ℕ) → has docs.ids d ≡ (has c.loop-level.rest.ids d && level_matches (rows d).places v)) (slice_get lvs c.loop-level.level) view c.in_ok-docs.ensures e)
    c.in_ok-subtract.ensures.ids)

pub returns : goal.returns
returns g c =
    let rows = g.S.RuleSource.rows c.args.source.now in
    let top = c.loop-level.auto.level-end in
    let end = c.loop-level-test.false in
    let some = c.if-count-eq0.false in
    levels-are rows c.args.graph.now c.args.universe.now.ids c.loop-level.levels.items c.loop-level.rest.ids c.loop-level.level
    (omega (arith, top, end) ∙ c.level_count-count.ensures) (subst (λ n. 0 < n) c.level_count-count.ensures (omega (arith, some))) c.loop-level.invariant
