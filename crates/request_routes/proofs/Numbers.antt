-- Decimal digits, and the number that they write.
use Rattle.std.proofs.Common.{◌≡◌, ℕ, ◌<◌, ◌≤◌, ◌^◌, true, false, Bool, ◌&&◌, ◌==◌, cond, List, [], ◌∷◌, length, Some, None, refl, sym, subst, arith}
use Rattle.std.specs.Prelude.{nat_lt, nat_le}
use Rattle.std.specs.List.{list_all}
use Rattle.std.specs.Str.Parse.{AllDigits, IsNumeral, digits_value, without_leading_plus}
use Rattle.std.specs.Char.{digit_value}
use Rattle.std.proofs.lemmas.Bool.{true≢false}
use Rattle.std.proofs.lemmas.Bool.Decides.{nat_tests}
use Rattle.std.proofs.lemmas.Str.{digit_value_digit}
use Rattle.request_routes.specs.Query.{is_digit, is_count}

and_true : (a b : Bool) → true ≡ (a && b) → (true ≡ a) × (true ≡ b)
and_true true b h = (refl, h)
and_true false b h = absurd (true≢false h)

least : (b : ℕ) → true ≡ nat_le 48 b → 48 ≤ b
least b h = grind (arith, nat_tests)

most : (b : ℕ) → true ≡ nat_le b 57 → b ≤ 57
most b h = grind (arith, nat_tests)

no_plus : (b : ℕ) → 48 ≤ b → (b == 43) ≡ false
no_plus b h = grind (arith, nat_tests)

is_below : (b : ℕ) → true ≡ is_digit b → (48 ≤ b) × (b ≤ 57)
is_below b h = let p = and_true (nat_le 48 b) (nat_le b 57) h in (least b p.0, most b p.1)

value_below : (b : ℕ) → 48 ≤ b → b ≤ 57 → digit_value b < 10
value_below b low high = let e = digit_value_digit b (low, high) in omega (arith, e, high)

pub all_digits : (bs : List ℕ) → true ≡ list_all is_digit bs → AllDigits 10 bs
all_digits [] h = tt
all_digits (b ∷ bs) h =
    let p = and_true (is_digit b) (list_all is_digit bs) h in
    let q = is_below b p.0 in
    (value_below b q.0 q.1, all_digits bs p.1)

pub plain_digits : (bs : List ℕ) → true ≡ list_all is_digit bs → without_leading_plus bs ≡ bs
plain_digits [] h = refl
plain_digits (b ∷ bs) h =
    let p = and_true (is_digit b) (list_all is_digit bs) h in
    let q = is_below b p.0 in
    rw (no_plus b q.0) refl

-- digits that are not read as a number write none below 2^64
pub read_none : (bs : List ℕ) → true ≡ list_all is_digit bs
    → ((IsNumeral 10 (without_leading_plus bs) × (digits_value 10 (without_leading_plus bs) < 2 ^ 64)) → ⊥)
    → None ≡ (cond (is_count bs) (Some (digits_value 10 bs)) None)
read_none bs digits none =
    go (nat_lt 0 (length bs)) (nat_lt (digits_value 10 bs) (2 ^ 64)) refl refl
  where
    lt_true : (a b : ℕ) → nat_lt a b ≡ true → a < b
    lt_true a b h = grind (arith, nat_tests)

    go : (a b : Bool) → nat_lt 0 (length bs) ≡ a → nat_lt (digits_value 10 bs) (2 ^ 64) ≡ b
        → None ≡ (cond (a && (list_all is_digit bs && b)) (Some (digits_value 10 bs)) None)
    go false b p q = refl
    go true false p q = rw (sym digits) refl
    go true true p q =
        let plain = plain_digits bs digits in
        absurd (none (subst (λ v. IsNumeral 10 v × (digits_value 10 v < 2 ^ 64)) (sym plain) ((lt_true 0 (length bs) p, all_digits bs digits), lt_true (digits_value 10 bs) (2 ^ 64) q)))
