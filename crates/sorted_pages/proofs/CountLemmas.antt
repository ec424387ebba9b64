-- Counts that go no farther than a usize.
use Rattle.std.proofs.Common.{◌≡◌, ℕ, ◌+◌, min, arith}

pub count-more : (had now n first came sum : ℕ) → now ≡ had + n → min had 18446744073709551615 ≡ min (first + came) 18446744073709551615 → sum ≡ min (came + n) 18446744073709551615
    → min now 18446744073709551615 ≡ min (first + sum) 18446744073709551615
count-more had now n first came sum e f g = omega (arith, e, f, g)

pub count-less : (had now n first went sum : ℕ) → now + n ≡ had → min (had + went) 18446744073709551615 ≡ first → sum ≡ min (went + n) 18446744073709551615
    → min (now + sum) 18446744073709551615 ≡ first
count-less had now n first went sum e f g = omega (arith, e, f, g)
