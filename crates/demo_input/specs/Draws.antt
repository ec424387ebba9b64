-- The numbers that the demo draws: each follows from the one before it.
use Rattle.std.specs.Prelude.{ℕ, zero, suc, ◌*◌, ◌%◌}

-- the number drawn after x
unfoldable pub next_draw : ℕ → ℕ
next_draw x = x * 48271 % 2147483647

-- the n-th number drawn after x, which is itself the 0th
unfoldable pub draw : ℕ → ℕ → ℕ
draw zero x = x
draw (suc n) x = next_draw (draw n x)
