-- Draws after draws.
use Rattle.std.proofs.Common.{◌≡◌, ℕ, zero, suc, ◌+◌, ◌*◌, refl, sym, ap, ◌∙◌, zero-add, arith}
use Rattle.demo_input.specs.Draws.{next_draw, draw}

draw-add : (m n x : ℕ) → draw m (draw n x) ≡ draw (m + n) x
unfolding draw
draw-add zero n x = ap (λ k. draw k x) (sym (zero-add n))
draw-add (suc m) n x =
    let e : suc m + n ≡ suc (m + n) = omega arith in
    ap next_draw (draw-add m n x) ∙ ap (λ k. draw k x) (sym e)

-- the draws of one document more
pub draw_six_more : (place x : ℕ) → draw 6 (draw (6 * place) x) ≡ draw (6 * (place + 1)) x
draw_six_more place x =
    let e : 6 + 6 * place ≡ 6 * (place + 1) = omega arith in
    draw-add 6 (6 * place) x ∙ ap (λ k. draw k x) e

pub draw_none : (x : ℕ) → x ≡ draw 0 x
unfolding draw
draw_none x = refl
