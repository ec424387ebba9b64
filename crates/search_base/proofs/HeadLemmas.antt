-- Heads of words: where two heads differ, they order their words as the texts do.
use Rattle.std.proofs.Common.{◌≡◌, ℕ, zero, suc, ◌+◌, ◌*◌, ◌^◌, ◌<◌, ◌≤◌, ◌⊎◌, inl, inr, true, List, [], ◌∷◌, get_or, drop, nat_lt, refl, ap, ◌∙◌, arith}
use Rattle.std.specs.Cmp.Lexicographic.{slice_cmp, nat_list_cmp_total}
use Rattle.std.specs.Ordering.{nat_cmp, ordering_then, ordering_reverse}
use Rattle.std.specs.declared.cmp.Ordering.{Ordering}
use Rattle.std.specs.declared.cmp.Ordering.TheVariants.{Less, Greater}
use Rattle.std.proofs.lemmas.Bool.Decides.{nat_tests}
use Rattle.std.proofs.lemmas.Grind.{pow_more}
use Rattle.std.proofs.lemmas.Nat.{mul-le}
use Rattle.search_base.specs.Heads.{head_from, head_of, AreBytes}

power : (n : ℕ) → 256 ^ suc n ≡ 256 ^ n * 256
power n = let next : suc n ≡ n + 1 = omega arith in ap (λ (k : ℕ). 256 ^ k) next ∙ pow_more 256 n

positive : (n : ℕ) → 0 < 256 ^ n
positive zero = omega arith
positive (suc n) = let p = positive n in omega (arith, p, power n)

rest : (b : ℕ) (bytes : List ℕ) → AreBytes (b ∷ bytes) → AreBytes bytes
rest b bytes are k = are (suc k)

bound : (n : ℕ) (bytes : List ℕ) → AreBytes bytes → head_from n bytes < 256 ^ n
unfolding head_from
bound zero bytes are = omega arith
bound (suc n) [] are = positive (suc n)
bound (suc n) (b ∷ bytes) are =
    let low = bound n bytes (rest b bytes are) in
    let first : b < 256 = are 0 in
    let most : b * 256 ^ n ≤ 255 * 256 ^ n = mul-le b (256 ^ n) 255 (256 ^ n) (omega (arith, first)) (omega arith) in
    omega (arith, low, most, power n)

-- a greater first byte makes the greater head
higher : (n a b x y : ℕ) → b < a → y < 256 ^ n → b * 256 ^ n + y ≤ a * 256 ^ n + x
higher n a b x y less low =
    let most : (b + 1) * 256 ^ n ≤ a * 256 ^ n = mul-le (b + 1) (256 ^ n) a (256 ^ n) (omega (arith, less)) (omega arith) in
    omega (arith, most, low)

not_higher : (n a b x y : ℕ) → y < 256 ^ n → a * 256 ^ n + x < b * 256 ^ n + y → (a < b) ⊎ (a ≡ b)
not_higher n a b x y low less =
    let order : ((a < b) ⊎ (a ≡ b)) ⊎ (b < a) = grind arith in
    elim order [
      | inl either ↦ either
      | inr greater ↦ absurd (let over = higher n a b x y greater low in omega (arith, over, less))
    ]

by_first : (a b : ℕ) (o : Ordering) → (a < b) ⊎ (a ≡ b) → (a ≡ b → o ≡ Less) → ordering_then (nat_cmp a b) o ≡ Less
by_first a b o (inl less) same = let t : nat_lt a b ≡ true = grind (arith, nat_tests) in rw t refl
by_first a b o (inr e) same = grind (arith, nat_tests)

less_from : (n : ℕ) (v w : List ℕ) → AreBytes v → AreBytes w → head_from n v < head_from n w → slice_cmp nat_cmp v w ≡ Less
unfolding head_from
less_from zero v w v_are w_are less = absurd (omega (arith, less))
less_from (suc n) [] [] v_are w_are less = absurd (omega (arith, less))
less_from (suc n) [] (b ∷ w) v_are w_are less = refl
less_from (suc n) (a ∷ v) [] v_are w_are less = absurd (omega (arith, less))
less_from (suc n) (a ∷ v) (b ∷ w) v_are w_are less =
    let sides = not_higher n a b (head_from n v) (head_from n w) (bound n w (rest b w w_are)) less in
    by_first a b (slice_cmp nat_cmp v w) sides (λ e. less_from n v w (rest a v v_are) (rest b w w_are) (omega (arith, ap (λ (k : ℕ). k * 256 ^ n) e, less)))

-- the lesser head has the lesser word
pub head-less : (v w : List ℕ) → AreBytes v → AreBytes w → head_of v < head_of w → slice_cmp nat_cmp v w ≡ Less
head-less = less_from 8

-- the greater head has the greater word
pub head-greater : (v w : List ℕ) → AreBytes v → AreBytes w → head_of w < head_of v → slice_cmp nat_cmp v w ≡ Greater
head-greater v w v_are w_are greater = nat_list_cmp_total.antisymm v w ∙ ap ordering_reverse (head-less w v w_are v_are greater)

empty : (bytes : List ℕ) → head_from 0 bytes ≡ 0
unfolding head_from
empty bytes = refl

none : (n : ℕ) → head_from n [] ≡ 0
unfolding head_from
none zero = refl
none (suc n) = refl

step : (n k : ℕ) (bytes : List ℕ) → head_from (suc n) (drop k bytes) ≡ get_or bytes k 0 * 256 ^ n + head_from n (drop (suc k) bytes)
unfolding head_from
step n zero [] = omega (arith, none n)
step n zero (b ∷ bytes) = refl
step n (suc k) [] = omega (arith, none n)
step n (suc k) (b ∷ bytes) = step n k bytes

-- the head, as the sum of its bytes
pub head-sum : (bytes : List ℕ)
    → get_or bytes 0 0 * 72057594037927936 + get_or bytes 1 0 * 281474976710656 + get_or bytes 2 0 * 1099511627776 + get_or bytes 3 0 * 4294967296
    + get_or bytes 4 0 * 16777216 + get_or bytes 5 0 * 65536 + get_or bytes 6 0 * 256 + get_or bytes 7 0 ≡ head_of bytes
head-sum bytes =
    let last : head_from 0 (drop 8 bytes) ≡ 0 = empty (drop 8 bytes) in
    omega (arith, step 7 0 bytes, step 6 1 bytes, step 5 2 bytes, step 4 3 bytes, step 3 4 bytes, step 2 5 bytes, step 1 6 bytes, step 0 7 bytes, last)
