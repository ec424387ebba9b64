use Rattle.std.proofs.Common.{◌∙◌, sym, arith}
use Rattle.change_journal.specs.Format.{closed, bad, opened}
use Rattle.change_journal.proofs.Fronts.{as_read, found_front}
use Rattle.change_journal.proofs.opening.front_of.Goals as goal

pub returns-in-Closed-clause-front : goal.returns-in-Closed-clause-front
returns-in-Closed-clause-front c = λ xs is long. as_read xs c.args.header.now c.args.len closed is long c.in-Closed.ensures.look

pub returns-in-Bad-clause-front : goal.returns-in-Bad-clause-front
returns-in-Bad-clause-front c = λ xs is long. (
  as_read xs c.args.header.now c.args.len (bad c.in-Bad.place) is long c.in-Bad.ensures.look,
  c.number.ensures,
  c.found.ensures ∙ found_front xs c.args.header.now c.in-Bad.place is c.in-Bad.ensures.within.1 c.in-Bad.ensures.within.0,
)

pub returns-in-Open-clause-front : goal.returns-in-Open-clause-front
returns-in-Open-clause-front c = λ xs is long. (
  as_read xs c.args.header.now c.args.len (opened c.in-Open.generation c.in-Open.size) is long c.in-Open.ensures.look,
  sym long,
  c.found-in-Open.ensures ∙ found_front xs c.args.header.now 8 is c.in-Open.ensures.within.0 (omega arith),
)
