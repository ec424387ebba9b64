use Rattle.std.proofs.Common.{◌*◌, ◌+◌, length, drop, get_or, ap, sym, ◌∙◌, arith, ℕ, List}
use Rattle.std.proofs.lemmas.List.{at_drop_more, at_drop_all}
use Rattle.path_registry.proofs.ShortLemmas.{number_behind, behind-more, behind-none, behind-first, behind-fits}
use Rattle.path_registry.proofs.short_names.number_of.Goals as goal

pub loop-byte-init : goal.loop-byte-init
loop-byte-init c = behind-first c.args.name.now

pub overflow_mul-number : goal.overflow_mul-number
overflow_mul-number c =
    let is = ap length c.as_bytes-byte-items.ensures.value in
    let fits = behind-fits c.args.name.now c.loop-byte.byte-index c.loop-byte.number (λ k. omega (arith, c.type_inv.name k)) c.requires
    (omega (arith, c.loop-byte-test.true, is)) c.loop-byte.invariant in
    omega (arith, fits)

pub overflow_add-number : goal.overflow_add-number
overflow_add-number c =
    let is = ap length c.as_bytes-byte-items.ensures.value in
    let byte = c.from.ensures ∙ ap (λ (v : List ℕ). get_or v c.loop-byte.byte-index 0) c.as_bytes-byte-items.ensures.value in
    let fits = behind-fits c.args.name.now c.loop-byte.byte-index c.loop-byte.number (λ k. omega (arith, c.type_inv.name k)) c.requires
    (omega (arith, c.loop-byte-test.true, is)) c.loop-byte.invariant in
    omega (arith, fits, byte)

pub loop-byte-preserved : goal.loop-byte-preserved
loop-byte-preserved c =
    let is = ap length c.as_bytes-byte-items.ensures.value in
    let byte = c.from.ensures ∙ ap (λ (v : List ℕ). get_or v c.loop-byte.byte-index 0) c.as_bytes-byte-items.ensures.value in
    ap (λ b. number_behind (c.loop-byte.number * 256 + b) (drop (c.loop-byte.byte-index + 1) c.args.name.now)) byte
    ∙ sym (behind-more c.loop-byte.number _ (drop (c.loop-byte.byte-index + 1) c.args.name.now))
    ∙ sym (at_drop_more (number_behind c.loop-byte.number) c.args.name.now c.loop-byte.byte-index 0 (omega (arith, c.loop-byte-test.true, is)))
    ∙ c.loop-byte.invariant

pub returns : goal.returns
returns c =
    let is = ap length c.as_bytes-byte-items.ensures.value in
    sym (behind-none c.loop-byte.number)
    ∙ sym (at_drop_all (number_behind c.loop-byte.number) c.args.name.now c.loop-byte.byte-index (omega (arith, c.loop-byte-test.false, is)))
    ∙ c.loop-byte.invariant
