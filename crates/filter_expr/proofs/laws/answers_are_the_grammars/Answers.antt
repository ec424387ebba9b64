use Rattle.filter_expr.proofs.Parses.{parsed_is}
use Rattle.filter_expr.proofs.laws.answers_are_the_grammars.Goals as goal

pub returns : goal.returns
returns c = parsed_is
