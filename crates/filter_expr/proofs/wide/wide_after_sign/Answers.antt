use Rattle.filter_machine.specs.Held.{machine_view}
use Rattle.filter_expr.proofs.Chars.{after_none, after_some, after_some_refused}
use Rattle.filter_expr.proofs.wide.wide_after_sign.Goals as goal

pub returns-in-None : goal.returns-in-None
returns-in-None c = after_none c.args.c c.args.at c.args.with_equal c.args.alone (machine_view c.args.machine) c.requires c.in-None.is

pub returns-in-Ok : goal.returns-in-Ok
returns-in-Ok c =
    after_some c.args.c c.args.at c.args.with_equal c.args.alone c.in-Some.comparison (machine_view c.args.machine) (machine_view c.in-Ok.machine) c.wide_in_gap.result c.requires
    c.in-Some.is c.in-Ok.ensures c.wide_in_gap.ensures

pub returns-in-Err : goal.returns-in-Err
returns-in-Err c =
    after_some_refused c.args.c c.args.at c.args.with_equal c.args.alone c.in-Some.comparison (machine_view c.args.machine) c.in-Err.fault c.requires c.in-Some.is c.in-Err.ensures
