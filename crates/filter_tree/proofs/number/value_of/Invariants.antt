use Rattle.std.proofs.Common.{◌≡◌, ◌-◌, ◌^◌, min, take}
use Rattle.std.specs.Str.Parse.{digits_value}
use Rattle.filter_tree.proofs.number.value_of.Given as goal

-- the number so far
abbrev pub invariant-loop-digit : goal.invariant-loop-digit
invariant-loop-digit l = l.value ≡ min (digits_value 10 (take l.digit-index l.digits)) (2 ^ 128 - 1)
