use Rattle.std.proofs.Common.{◌+◌, ◌*◌, Some, eqb, sym, ap, ◌∙◌}
use Rattle.std.specs.Option.{option_eq}
use Rattle.posting_sets.proofs.PassLemmas.{passed_then, passed_else, rest_of}
use Rattle.posting_sets.proofs.occurrences.pass_document.Goals as goal

pub returns-then-eq : goal.returns-then-eq
returns-then-eq c =
    let last = c.from.result * 4294967296 + 4294967295 in
    let found = ap (λ o. option_eq eqb o (Some last)) (sym c.first.ensures.first) ∙ sym c.eq.ensures ∙ c.if-eq.true in
    rest_of _ _ _ c.next-last.ensures.steps
    ∙ passed_then c.args.id.0 last (ap (λ n. n * 4294967296 + 4294967295) c.from.ensures) c.args.entries.now c.seek.new.self c.first.ensures.increasing c.seek.ensures found

pub returns-else-eq : goal.returns-else-eq
returns-else-eq c =
    let last = c.from.result * 4294967296 + 4294967295 in
    let found = ap (λ o. option_eq eqb o (Some last)) (sym c.first.ensures.first) ∙ sym c.eq.ensures ∙ c.if-eq.false in
    passed_else c.args.id.0 last (ap (λ n. n * 4294967296 + 4294967295) c.from.ensures) c.args.entries.now c.seek.new.self c.first.ensures.increasing c.seek.ensures found
