use Rattle.filter_expr.proofs.Unique.{one_answer}
use Rattle.filter_expr.proofs.laws.a_value_has_one_answer.Goals as goal

pub returns : goal.returns
returns c = one_answer
