use Rattle.std.proofs.Common.{inr, refl}
use Rattle.path_costs.proofs.stream.begin.Goals as goal

pub rows_of-requires-clause-len : goal.rows_of-requires-clause-len
rows_of-requires-clause-len g c = (c.requires.found (c.goes_on-goes_on.ensures c.if-goes_on.false)).edges

pub rows_of-requires-clause-right : goal.rows_of-requires-clause-right
rows_of-requires-clause-right g c = (c.requires.found (c.goes_on-goes_on.ensures c.if-goes_on.false)).met

pub returns-clause-few : goal.returns-clause-few
returns-clause-few g c = inr (c.in_ok-rows.rows, refl, c.in_ok-rows.ensures.rows)
