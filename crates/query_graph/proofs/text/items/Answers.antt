use Rattle.std.proofs.Common.{◌∙◌, sym, subst, ap, List}
use Rattle.query_graph.specs.ItemView.{ItemView}
use Rattle.query_graph.specs.Items.{AreItems, without_stop_words}
use Rattle.query_graph.proofs.ItemLemmas.{are_items}
use Rattle.query_graph.proofs.text.items.Goals as goal

pub returns-clause-each : goal.returns-clause-each
returns-clause-each c =
    let is = c.without_stop_words.ensures ∙ ap (λ (items : List ItemView). without_stop_words c.args.stop_words.now items) c.in_ok-list.ensures in
    subst AreItems (sym is) (are_items c.args.q.now c.args.stop_words.now)
