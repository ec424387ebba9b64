use Rattle.std.proofs.Common.{◌≡◌, [], ◌∙◌, sym, ap}
use Rattle.facet_index.proofs.HeldLemmas.{is_in, in_none, in_first, not_in_first}
use Rattle.facet_index.proofs.sorts.is_held.Goals as goal

pub returns-then-contains : goal.returns-then-contains
returns-then-contains c =
    sym (in_first c.in-Some.entry c.document_of.result.0 c.next.new.self c.args.universe.now.ids c.document_of.ensures (cc))
    ∙ ap (is_in c.args.universe.now.ids) (sym c.in-Some.ensures.steps) ∙ c.loop-entry.invariant

pub loop-entry-preserved : goal.loop-entry-preserved
loop-entry-preserved c =
    sym (not_in_first c.in-Some.entry c.document_of.result.0 c.next.new.self c.args.universe.now.ids c.document_of.ensures (cc))
    ∙ ap (is_in c.args.universe.now.ids) (sym c.in-Some.ensures.steps) ∙ c.loop-entry.invariant

pub returns : goal.returns
returns c =
    let none : [] ≡ c.loop-entry.entry-iterator = sym c.in-None.ensures.steps.0 in
    sym (in_none c.args.universe.now.ids) ∙ ap (is_in c.args.universe.now.ids) none ∙ c.loop-entry.invariant
