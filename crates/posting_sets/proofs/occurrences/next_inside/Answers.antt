use Rattle.std.proofs.Common.{◌∷◌, sym, ap, ◌∙◌, arith, ◌<◌, length, subst}
use Rattle.std.specs.List.{filter}
use Rattle.posting_sets.specs.Starts.{is_inside}
use Rattle.posting_sets.proofs.InsideLemmas.{next_above, skipped, shorter, nothing_inside, taken_inside, none_left}
use Rattle.posting_sets.proofs.PassLemmas.{rest_of}
use Rattle.posting_sets.proofs.occurrences.next_inside.Goals as goal

pub overflow_sub-next : goal.overflow_sub-next
overflow_sub-next c = omega (arith, next_above _ c.in-Some-next_after.ensures.increasing _ _ c.in-Some-next_after.ensures.next)

pub loop-entry-smaller : goal.loop-entry-smaller
loop-entry-smaller c =
    subst (λ v. length v < length c.loop-entry.entries) (sym c.pass_document.ensures)
    (shorter _ c.next_after.ensures.increasing c.loop-entry.entries c.in-Some.entry c.document_of-id.result.0 c.first.ensures.increasing c.in-Some.ensures.first c.document_of-id.ensures
    (sym c.contains.ensures ∙ c.if-contains.false) _ c.in-Some-next_after.ensures.next)

pub loop-entry-preserved : goal.loop-entry-preserved
loop-entry-preserved c =
    ap (filter (is_inside c.args.universe.now.ids)) c.pass_document.ensures
    ∙ skipped _ c.next_after.ensures.increasing c.loop-entry.entries c.in-Some.entry c.document_of-id.result.0 c.first.ensures.increasing c.in-Some.ensures.first c.document_of-id.ensures
    (sym c.contains.ensures ∙ c.if-contains.false) _ c.in-Some-next_after.ensures.next
    ∙ c.loop-entry.invariant

pub returns-in-None : goal.returns-in-None
returns-in-None c =
    let none = nothing_inside _ c.next_after.ensures.increasing c.loop-entry.entries c.in-Some.entry c.document_of-id.result.0 c.first.ensures.increasing c.in-Some.ensures.first c.document_of-id.ensures
    (sym c.contains.ensures ∙ c.if-contains.false) c.in-None.ensures.next in
    (sym c.loop-entry.invariant ∙ none, none)

pub returns : goal.returns
returns c =
    let none = ap (filter (is_inside c.args.universe.now.ids)) (none_left c.loop-entry.entries (sym c.in_default.is ∙ c.first.ensures.first)) in
    (sym c.loop-entry.invariant ∙ none, none)

pub returns-then-contains : goal.returns-then-contains
returns-then-contains c =
    sym c.loop-entry.invariant
    ∙ taken_inside c.args.universe.now.ids c.loop-entry.entries c.in-Some.entry c.document_of-id.result.0 c.in-Some.ensures.first c.document_of-id.ensures (sym c.contains.ensures ∙ c.if-contains.true)
    ∙ ap (λ v. c.in-Some.entry ∷ filter (is_inside c.args.universe.now.ids) v) (sym (rest_of _ _ _ c.next-entry.ensures.steps))
