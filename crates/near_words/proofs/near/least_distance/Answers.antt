use Rattle.std.proofs.Common.{◌≡◌, ℕ, ◌+◌, ◌<◌, ◌⊎◌, inl, inr, get_or, min, sym, ap, subst, ◌∙◌, arith}
use Rattle.near_words.proofs.WalkLemmas.{Walked, walk_right, walk_left, walk_end}
use Rattle.near_words.proofs.near.least_distance.Goals as goal
use Rattle.near_words.proofs.near.least_distance.Goals.{then-from-to, else-from-to}

pub loop-i-preserved-then-to-from : goal.loop-i-preserved-then-to-from
loop-i-preserved-then-to-from c =
    let L = c.args.left.now in
    let R = c.args.right.now in
    subst (λ (n : ℕ). Walked L R c.loop-i.i (c.loop-i.j + 1) n) (sym (c.min-least.ensures ∙ ap (min c.loop-i.least) c.distance.ensures))
    (walk_right L R c.loop-i.i c.loop-i.j c.loop-i.least c.requires.left c.requires.right c.loop-i-test.true c.if-j-right.true c.loop-i.invariant c.if-to-from.true)

pub loop-i-preserved : goal.loop-i-preserved
loop-i-preserved c =
    let L = c.args.left.now in
    let R = c.args.right.now in
    let i = c.loop-i.i in
    let j = c.loop-i.j in
    let next = c.if-from-to.next in
    let reach : (next ≡ j × (get_or L i 0 < get_or R j 0)) ⊎ (next ≡ j + 1 × (get_or L i 0 ≡ get_or R j 0)) = elim c.if-from-to.branch [
      | then-from-to w ↦ inr (w.next-is, w.if-from-to.true)
      | else-from-to w ↦ inl (w.next-is, (let apart = w.if-from-to.false in omega arith))
    ] in
    subst (λ (n : ℕ). Walked L R (i + 1) j n) (sym c.min-least-else-to-from.ensures)
    (walk_left L R i j c.loop-i.least c.requires.left c.requires.right c.loop-i-test.true c.if-j-right.true c.loop-i.invariant
    next c.distance_to.result reach c.distance_to.ensures.some c.distance_to.ensures.none)

pub returns-else-j-right : goal.returns-else-j-right
returns-else-j-right c = walk_end c.args.left.now c.args.right.now c.loop-i.i c.loop-i.j c.loop-i.least c.loop-i.invariant (inr c.if-j-right.false)

pub returns-after-loop-i : goal.returns-after-loop-i
returns-after-loop-i c = walk_end c.args.left.now c.args.right.now c.loop-i.i c.loop-i.j c.loop-i.least c.loop-i.invariant (inl c.loop-i-test.false)
