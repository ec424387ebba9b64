-- Beyond the greatest number and the least.
use Rattle.std.proofs.Common.{◌≡◌, ℕ, ℤ, pos, negsuc, zero, suc, ◌+ℤ◌, ◌-ℤ◌, ◌+◌, ◌^◌, ◌<◌, false, int_lt, refl, sym, subst, arith}
use Rattle.std.specs.Int.{w128}
use Rattle.std.specs.Int.RustNames.{FitsSigned}
use Rattle.std.proofs.lemmas.Bool.Decides.{nat_tests}
use Rattle.std.proofs.lemmas.Int.{ints}

one_up : (a : ℕ) → negsuc (suc a) +ℤ pos 1 ≡ negsuc a
one_up a = first_of (omega (arith, ints), grind (arith, ints))

one_down : (a : ℕ) → pos (suc a) -ℤ pos 1 ≡ pos a
one_down a = first_of (omega (arith, ints), grind (arith, ints))

-- no number is above the greatest, nor below the least
pub none_above : (n : ℤ) → FitsSigned w128 n → (FitsSigned w128 (n +ℤ pos 1) → ⊥) → (m : ℤ) → FitsSigned w128 m → int_lt n m ≡ false
none_above (pos a) fits not_fits (pos b) h =
    let low : b < 2 ^ 127 = h.sfits in
    let all : a + 1 < 2 ^ 127 → ⊥ = λ less. not_fits (record { sfits = less }) in
    grind (arith, nat_tests)
none_above (pos a) fits not_fits (negsuc b) h = refl
none_above (negsuc zero) fits not_fits m h = absurd (not_fits (record { sfits = omega arith }))
none_above (negsuc (suc a)) fits not_fits m h =
    let low : suc a < 2 ^ 127 = fits.sfits in
    let less : FitsSigned w128 (negsuc a) = record { sfits = omega arith } in
    absurd (not_fits (subst (FitsSigned w128) (sym (one_up a)) less))

pub none_below : (n : ℤ) → FitsSigned w128 n → (FitsSigned w128 (n -ℤ pos 1) → ⊥) → (m : ℤ) → FitsSigned w128 m → int_lt m n ≡ false
none_below (pos zero) fits not_fits m h = absurd (not_fits (record { sfits = omega arith }))
none_below (pos (suc a)) fits not_fits m h =
    let low : suc a < 2 ^ 127 = fits.sfits in
    let less : FitsSigned w128 (pos a) = record { sfits = omega arith } in
    absurd (not_fits (subst (FitsSigned w128) (sym (one_down a)) less))
none_below (negsuc a) fits not_fits (pos b) h = refl
none_below (negsuc a) fits not_fits (negsuc b) h =
    let low : b < 2 ^ 127 = h.sfits in
    let all : a + 1 < 2 ^ 127 → ⊥ = λ less. not_fits (record { sfits = omega arith }) in
    grind (arith, nat_tests)
