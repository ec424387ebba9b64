-- Which numbers lie between two.
use Rattle.std.proofs.Common.{◌≡◌, ℤ, pos, negsuc, zero, suc, ◌+ℤ◌, ◌-ℤ◌, ◌-◌, ◌^◌, ◌<◌, Bool, true, false, not, ◌&&◌, int_lt, refl, ap, ◌∙◌, arith}
use Rattle.std.specs.Int.{w128}
use Rattle.std.specs.Int.RustNames.{FitsSigned}
use Rattle.std.proofs.lemmas.Bool.Decides.{nat_tests}
use Rattle.filter_sets.specs.Selects.{AreBetween}

abbrev pub least_of_all : ℤ
least_of_all = negsuc (2 ^ 127 - 1)

abbrev pub greatest_of_all : ℤ
greatest_of_all = pos (2 ^ 127 - 1)

-- no number is outside
not_below : (m : ℤ) → FitsSigned w128 m → int_lt m least_of_all ≡ false
not_below (pos m) h = refl
not_below (negsuc m) h = let low : m < 2 ^ 127 = h.sfits in grind (arith, nat_tests)

not_above : (m : ℤ) → FitsSigned w128 m → int_lt greatest_of_all m ≡ false
not_above (pos m) h = let low : m < 2 ^ 127 = h.sfits in grind (arith, nat_tests)
not_above (negsuc m) h = refl

and_true : (b : Bool) → (b && true) ≡ b
and_true true = refl
and_true false = refl

pub from_on : (n : ℤ) → AreBetween n greatest_of_all (λ m. not (int_lt m n))
from_on n = λ m fits. ap (λ b. not (int_lt m n) && not b) (not_above m fits) ∙ and_true (not (int_lt m n))

pub up_to : (n : ℤ) → AreBetween least_of_all n (λ m. not (int_lt n m))
up_to n = λ m fits. ap (λ b. not b && not (int_lt n m)) (not_below m fits)

above_is : (n low m : ℤ) → low ≡ n +ℤ pos 1 → not (int_lt m low) ≡ int_lt n m
above_is n low m is = ap (λ (l : ℤ). not (int_lt m l)) is ∙ by n m
  where
    by : (n m : ℤ) → not (int_lt m (n +ℤ pos 1)) ≡ int_lt n m
    by (pos a) (pos b) = grind (arith, nat_tests)
    by (pos a) (negsuc b) = refl
    by (negsuc zero) (pos b) = grind (arith, nat_tests)
    by (negsuc zero) (negsuc b) = grind (arith, nat_tests)
    by (negsuc (suc a)) (pos b) = grind (arith, nat_tests)
    by (negsuc (suc a)) (negsuc b) = grind (arith, nat_tests)

below_is : (n high m : ℤ) → high ≡ n -ℤ pos 1 → not (int_lt high m) ≡ int_lt m n
below_is n high m is = ap (λ (h : ℤ). not (int_lt h m)) is ∙ by n m
  where
    by : (n m : ℤ) → not (int_lt (n -ℤ pos 1) m) ≡ int_lt m n
    by (pos zero) (pos b) = grind (arith, nat_tests)
    by (pos zero) (negsuc b) = grind (arith, nat_tests)
    by (pos (suc a)) (pos b) = grind (arith, nat_tests)
    by (pos (suc a)) (negsuc b) = grind (arith, nat_tests)
    by (negsuc a) (pos b) = grind (arith, nat_tests)
    by (negsuc a) (negsuc b) = grind (arith, nat_tests)

pub above : (n low : ℤ) → low ≡ n +ℤ pos 1 → AreBetween low greatest_of_all (λ m. int_lt n m)
above n low is = λ m fits. from_on low m fits ∙ above_is n low m is

pub below : (n high : ℤ) → high ≡ n -ℤ pos 1 → AreBetween least_of_all high (λ m. int_lt m n)
below n high is = λ m fits. up_to high m fits ∙ below_is n high m is
