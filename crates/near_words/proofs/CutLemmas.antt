-- The least of some numbers, cut at 8.
use Rattle.std.proofs.Common.{◌≡◌, ℕ, ◌≤◌, inl, inr, min, List, [], ◌∷◌, Option, None, Some, refl, arith}
use Rattle.std.specs.Option.{unwrap_or}
use Rattle.search_base.specs.Least.{lesser, least}
use Rattle.search_base.proofs.Members.{Among}

abbrev pub cut : List ℕ → ℕ
cut ns = min 8 (unwrap_or (least ns) 8)

cut_more : (n : ℕ) (o : Option ℕ) → min 8 (unwrap_or (lesser (Some n) o) 8) ≡ min n (min 8 (unwrap_or o 8))
cut_more n None = omega arith
cut_more n (Some m) = omega arith

pub cut_least : (ns : List ℕ) (n : ℕ) → Among ns n → cut ns ≤ n
cut_least [] n h = absurd h
cut_least (m ∷ ms) n (inl same) = omega (arith, cut_more m (least ms), same)
cut_least (m ∷ ms) n (inr later) = omega (arith, cut_more m (least ms), cut_least ms n later)

pub cut_greatest : (ns : List ℕ) (k : ℕ) → k ≤ 8 → ((n : ℕ) → Among ns n → k ≤ n) → k ≤ cut ns
cut_greatest [] k small below = omega arith
cut_greatest (m ∷ ms) k small below =
    omega (arith, cut_more m (least ms), below m (inl refl), cut_greatest ms k small (λ n h. below n (inr h)))

-- the number up to 8 that is at most each, and no less than any other that is so
pub cut_is : (ns : List ℕ) (n : ℕ) → ((m : ℕ) → Among ns m → n ≤ m) → n ≤ 8 → ((k : ℕ) → k ≤ 8 → ((m : ℕ) → Among ns m → k ≤ m) → k ≤ n) → n ≡ cut ns
cut_is ns n below small greatest =
    omega (arith, cut_greatest ns n small below, greatest (cut ns) (omega arith) (cut_least ns))
