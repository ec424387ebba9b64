-- What a look at the bytes so far finds.
use Rattle.std.specs.Prelude.{ℕ, ◌+◌, ◌≤◌, List, length}
use Rattle.http_wire.specs.Head.{IsHeadAt, IsTooLong, IsBlank, IsInHead}
use Rattle.http_wire.specs.declared.head.Cut.{Cut}
use Rattle.http_wire.specs.declared.head.Cut.TheVariants.{Head, TooLong, Blank, InHead}

-- what is found is so
abbrev pub CutIs : List ℕ → Cut → Type 0
CutIs bytes (Head start len) = IsHeadAt bytes start len × (start + len ≤ length bytes)
CutIs bytes TooLong = IsTooLong bytes
CutIs bytes Blank = IsBlank bytes
CutIs bytes InHead = IsInHead bytes
