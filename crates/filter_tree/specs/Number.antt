-- The whole numbers that texts write.
use Rattle.std.specs.Prelude.{ℕ, ℤ, ◌-◌, pos, neg_ℤ, List, [], ◌∷◌, Bool, ◌&&◌, if◌then◌else◌, nat_eq, nat_le, nat_lt, ◌^◌, length, Option, Some, None, option_map}
use Rattle.std.specs.Char.{is_ascii_digit}
use Rattle.std.specs.List.{list_all}
use Rattle.std.specs.Str.Parse.{digits_value}

-- one decimal digit or more, and nothing else
abbrev pub is_numeral : List ℕ → Bool
is_numeral digits = nat_lt 0 (length digits) && list_all is_ascii_digit digits

-- the number of a text of digits, where it is no greater than this
abbrev pub numeral_up_to : ℕ → List ℕ → Option ℕ
numeral_up_to most digits = if is_numeral digits && nat_le (digits_value 10 digits) most then Some (digits_value 10 digits)
    else None

-- the whole number that a text writes: an optional `-` and decimal digits, from -2^63 to 2^64 - 1
unfoldable pub number_of : List ℕ → Option ℤ
number_of [] = None
number_of (b ∷ bs) =
    if nat_eq b 45 then option_map (λ n. neg_ℤ (pos n)) (numeral_up_to (2 ^ 63) bs)
    else option_map pos (numeral_up_to (2 ^ 64 - 1) (b ∷ bs))
