use Rattle.std.proofs.Common.{◌≡◌, ◌-◌, []}
use Rattle.index_image.specs.Image.{list_at, outcome_at}
use Rattle.index_image.proofs.outcomes.some_outcomes.Given as goal

-- those that are left are read behind those so far
abbrev pub invariant-loop : goal.invariant-loop
invariant-loop l = list_at (λ before. outcome_at) (l.count - l.counter) l.outcomes.items l.rest ≡ list_at (λ before. outcome_at) l.count [] l.bytes
