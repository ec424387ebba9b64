-- The fields of a head and its verdict, as the code holds them.
use Rattle.std.specs.Prelude.{◌≡◌, ◌≤◌, ℕ, List, [], ◌∷◌, length, Bool, ◌||◌, ◌==◌, if◌then◌else◌}
use Rattle.std.specs.List.{list_any, flat_map}
use Rattle.http_wire.specs.declared.HeadKind.TheVariants.{Coded}
use Rattle.http_wire.specs.declared.fields.Field.{Field}
use Rattle.http_wire.specs.declared.judge.RequestLine.{RequestLine}
use Rattle.http_wire.specs.declared.judge.Ruling.{Ruling}
use Rattle.http_wire.specs.declared.judge.Ruling.TheVariants.{Refused, Accepted}
use Rattle.http_wire.specs.declared.fields.Lengths.{Lengths}
use Rattle.http_wire.specs.declared.fields.Lengths.TheVariants.{Absent, One, Several}
use Rattle.http_wire.specs.Judge.{Pair, Verdict, Parts, refused, accepted, is_coding, is_close, length_value, by_lengths}

-- a field's name and value
abbrev pub pair_of : Field → Pair
pair_of f = (f.name.now, f.value.now)

-- what a ruling says
abbrev pub verdict_of : Ruling → Verdict
verdict_of (Refused kind number) = refused kind number
verdict_of (Accepted method target closes size) = accepted (record { method = method.now; target = target.now; closes = closes }) size

-- the values are none, one, or several
abbrev pub LengthsAre : List (List ℕ) → Lengths → Type 0
LengthsAre values Absent = values ≡ []
LengthsAre values (One text) = values ≡ text.now ∷ []
LengthsAre values Several = 2 ≤ length values

-- whether the request asks to close
abbrev pub held_closes : ℕ → List Field → Bool
held_closes minor fields = minor == 0 || list_any (λ f. is_close (pair_of f)) fields

-- the parts that a first line gives
abbrev pub parts_of_line : RequestLine → Bool → Parts
parts_of_line line closes = record { method = line.method.now; target = line.target.now; closes = closes }

-- `by_fields`, over the fields as they are held
abbrev pub by_held : RequestLine → List Field → ℕ → Verdict
by_held line fields n =
    if list_any (λ f. is_coding (pair_of f)) fields then refused Coded n
    else by_lengths (parts_of_line line (held_closes line.minor fields)) n (flat_map (λ f. length_value (pair_of f)) fields)
