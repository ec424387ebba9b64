use Rattle.std.proofs.Common.{◌≡◌, ◌∙◌, ◌-◌, ap, sym, length, arith}
use Rattle.query_graph.specs.Graph.{level_of}
use Rattle.query_graph.specs.Levels.{most_dropped}
use Rattle.query_graph.proofs.LevelLemmas.{kept_le, levels_more, levels_done}
use Rattle.query_graph.proofs.graph.levels_of.Goals as goal
use Rattle.query_graph.proofs.graph.levels_of.Goals.{in-Last, in-All}

pub add_level-requires : goal.add_level-requires
add_level-requires c =
    omega (arith, kept_le (c.word_count-words.result - c.loop-dropped.dropped) c.args.list.now, ap length (c.as_slice.ensures.value ∙ c.in_ok-kept.ensures))

pub loop-dropped-preserved : goal.loop-dropped-preserved
loop-dropped-preserved c =
    levels_more (level_of c.args.table.now) c.args.list.now c.as_slice.result.now c.word_count-words.result c.loop-dropped.dropped c.match-strategy.most c.loop-dropped.graphs.items _ _
    c.word_count-words.ensures.words (c.as_slice.ensures.value ∙ c.in_ok-kept.ensures) c.in_ok-add_level.ensures (omega arith) c.loop-dropped.invariant

pub returns : goal.returns
returns c =
    let list = c.args.list.now in
    let most : c.match-strategy.most ≡ most_dropped c.args.strategy list =
    elim c.match-strategy.branch [ in-Last w ↦ w.most-is ∙ c.word_count-words.ensures.words ∙ sym (ap (λ s. most_dropped s list) w.in-Last.is) | in-All w ↦ w.most-is ∙ sym (ap (λ s. most_dropped s list) w.in-All.is) ] in
    levels_done (level_of c.args.table.now) c.args.strategy list c.loop-dropped.dropped c.match-strategy.most c.loop-dropped.graphs.items most c.loop-dropped-test.false c.loop-dropped.invariant
