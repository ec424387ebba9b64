use Rattle.std.proofs.Common.{rules, not}
use Rattle.std.proofs.lemmas.Fn.{filter_same}
use Rattle.query_graph.specs.ItemView.{ItemView}
use Rattle.query_graph.specs.Items.{is_left_out}
use Rattle.query_graph.proofs.text.leave_out.Goals as goal

pub returns : goal.returns
returns c = filter_same _ (λ (item : ItemView). not (is_left_out c.args.stop_words.now item)) _ (λ x b f' h. search rules) _ _ c.retain.ensures.filtered
