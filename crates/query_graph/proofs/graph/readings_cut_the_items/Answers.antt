use Rattle.query_graph.proofs.CutLemmas.{readings_cut}
use Rattle.query_graph.proofs.graph.readings_cut_the_items.Goals as goal

pub returns : goal.returns
returns c rows items reading = readings_cut rows items reading
