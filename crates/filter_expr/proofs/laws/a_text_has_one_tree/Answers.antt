use Rattle.filter_machine.proofs.Readings.{one_tree}
use Rattle.filter_expr.proofs.laws.a_text_has_one_tree.Goals as goal

pub returns : goal.returns
returns c = one_tree
