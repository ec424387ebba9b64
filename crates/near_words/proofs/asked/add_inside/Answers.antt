use Rattle.std.proofs.Common.{ℕ, ◌+◌, ◌<◌, ◌≤◌, ◌/◌, ◌^◌, List, ◌++◌, length, sym, ap, ap₂, subst, ◌∙◌, append-nil, arith}
use Rattle.std.specs.List.{AllByRecursion}
use Rattle.near_words.specs.Inside.{inside}
use Rattle.near_words.proofs.ReadLemmas.{all_at_least}
use Rattle.near_words.proofs.InsideLemmas.{inside_read, inside_skip, inside_none, none_between, none_behind, next_more, shorter, begins_sooner}
use Rattle.near_words.proofs.asked.add_inside.Goals as goal

pub loop-id-smaller-in-Continue-1 : goal.loop-id-smaller-in-Continue-1
loop-id-smaller-in-Continue-1 c =
    let cursor = c.loop-id.left in
    subst (λ (left : List ℕ). length left < length cursor) (sym c.in_ok-read.ensures.left) (shorter (c.in-Some.id.0 + 1) cursor c.in-Some.ensures.passed)

pub loop-id-preserved-in-Continue-1 : goal.loop-id-preserved-in-Continue-1
loop-id-preserved-in-Continue-1 c =
    let universe = c.args.universe.now.ids in
    ap₂ (λ (done left : List ℕ). done ++ inside universe left) c.in_ok-read.ensures.run c.in_ok-read.ensures.left
    ∙ inside_read universe c.in-Some.id.0 c.loop-id.left c.loop-id.entries.items _ (sym c.contains.ensures ∙ c.if-contains.true)
    c.in-Some.ensures.increasing c.in-Some.ensures.some c.loop-id.invariant

pub loop-id-smaller : goal.loop-id-smaller
loop-id-smaller c =
    let universe = c.args.universe.now.ids in
    let id = c.in-Some.id.0 in
    let next = c.in-Some-next_after.next.0 in
    let cursor = c.loop-id.left in
    let more = next_more universe id next c.in-Some-next_after.ensures.next in
    subst (λ (left : List ℕ). length left < length cursor) (sym c.seek.ensures) (shorter next cursor (begins_sooner (id + 1) next cursor (omega (arith, more)) c.in-Some.ensures.passed))

pub loop-id-preserved : goal.loop-id-preserved
loop-id-preserved c =
    let universe = c.args.universe.now.ids in
    let id = c.in-Some.id.0 in
    let next = c.in-Some-next_after.next.0 in
    let cursor = c.loop-id.left in
    let done = c.loop-id.entries.items in
    ap (λ (left : List ℕ). done ++ inside universe left) c.seek.ensures
    ∙ ap (λ (left : List ℕ). done ++ left) (inside_skip universe id next cursor
    (λ q low high. none_between universe id next q c.next_after.ensures.increasing (sym c.contains.ensures ∙ c.if-contains.false) c.in-Some-next_after.ensures.next low high)
    (subst (AllByRecursion (λ x. id ≤ x / 2 ^ 32)) c.in-Some.ensures.some (all_at_least id cursor)))
    ∙ c.loop-id.invariant

pub returns-in-None : goal.returns-in-None
returns-in-None c =
    let universe = c.args.universe.now.ids in
    let id = c.in-Some.id.0 in
    let cursor = c.loop-id.left in
    let done = c.loop-id.entries.items in
    sym (append-nil done)
    ∙ ap (λ (left : List ℕ). done ++ left) (sym (inside_none universe id cursor
    (λ q low. none_behind universe id q (sym c.contains.ensures ∙ c.if-contains.false) c.in-None.ensures.next low)
    (subst (AllByRecursion (λ x. id ≤ x / 2 ^ 32)) c.in-Some.ensures.some (all_at_least id cursor))))
    ∙ c.loop-id.invariant
