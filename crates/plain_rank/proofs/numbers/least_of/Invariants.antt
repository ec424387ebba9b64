use Rattle.std.proofs.Common.{◌≡◌, drop}
use Rattle.search_base.specs.Least.{lesser, least_by}
use Rattle.plain_rank.specs.Numbers.{number_there}
use Rattle.plain_rank.proofs.numbers.least_of.Given as goal

abbrev pub invariant-loop-place : goal.invariant-loop-place
invariant-loop-place l =
    let each = number_there l.by_rank l.start in
    lesser l.least (least_by each (drop l.place-index l.places)) ≡ least_by each l.places
