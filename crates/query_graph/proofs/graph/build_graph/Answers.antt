use Rattle.std.proofs.Common.{◌∙◌, ap, List}
use Rattle.query_graph.specs.ItemView.{ItemView}
use Rattle.query_graph.specs.ItemReadings.{words_of, query_for}
use Rattle.query_graph.proofs.ReadingLemmas.{built_reads, have_readings}
use Rattle.query_graph.proofs.SoundLemmas.{built_sound}
use Rattle.query_graph.proofs.CostLemmas.{built_costs}
use Rattle.query_graph.proofs.TermLemmas.{built_terms}
use Rattle.query_graph.proofs.graph.build_graph.Goals as goal

pub returns-clause-sound : goal.returns-clause-sound
returns-clause-sound c =
    built_sound c.args.table.now c.terms_have_words.ensures c.args.strategy c.args.items.now c.as_slice-list.result.now _ _ c.in_ok-levels.ensures c.in_ok-whole.ensures
    (c.as_slice-list.ensures.value ∙ c.items.view_is) c.requires

pub returns-clause-paths : goal.returns-clause-paths
returns-clause-paths c =
    have_readings _ _ (built_reads c.args.table.now c.args.strategy c.args.items.now c.as_slice-list.result.now _ c.in_ok-levels.ensures (c.as_slice-list.ensures.value ∙ c.items.view_is))

pub returns-clause-costs : goal.returns-clause-costs
returns-clause-costs c = λ rows rules.
    let same = c.as_slice-list.ensures.value ∙ c.items.view_is in
    built_costs rows rules (query_for c.args.strategy c.args.table.now c.args.items.now) _ _
    (built_reads c.args.table.now c.args.strategy c.args.items.now c.as_slice-list.result.now _ c.in_ok-levels.ensures same)
    (c.in_ok-whole.ensures ∙ ap (λ (items : List ItemView). words_of items) same)

pub returns-clause-terms : goal.returns-clause-terms
returns-clause-terms c =
    built_terms c.args.table.now c.args.strategy c.args.items.now c.as_slice-list.result.now _ c.in_ok-levels.ensures (c.as_slice-list.ensures.value ∙ c.items.view_is)
