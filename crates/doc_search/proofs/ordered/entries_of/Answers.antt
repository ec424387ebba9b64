use Rattle.std.proofs.Common.{◌∙◌, ap, refl}
use Rattle.facet_index.specs.Ends.{first_value}
use Rattle.leaf_table.specs.Tables.{kept_at}
use Rattle.doc_search.proofs.EntryLemmas.{first_under, entry_added, entry_passed}
use Rattle.doc_search.proofs.ordered.entries_of.Goals as goal

pub loop-id-preserved-in_ok-push : goal.loop-id-preserved-in_ok-push
loop-id-preserved-in_ok-push c =
    entry_added c.args.up c.args.path.0 (λ d. kept_at d c.args.leaves.now) c.args.universe.now.ids c.loop-id.id-iterator c.next.new.self c.in-Some.id.0
    c.loop-id.entries.items c.in-Some.ensures.steps c.loop-id.invariant c.in-Some-first_value.value.now c.in_ok-clone.field-0
    (record { key = c.entry_of-key.result; id = c.in-Some.id }) c.push.new.self.items
    (c.in-Some-first_value.ensures ∙ ap (first_value c.args.up c.args.path.0) (c.as_slice.ensures.value ∙ c.in_ok-copy_under.ensures)
    ∙ first_under c.args.up c.args.path.0 (kept_at c.in-Some.id.0 c.args.leaves.now)) c.in_ok-clone.ensures.cases c.entry_of-key.ensures refl
    c.in_ok-push.ensures.items

pub loop-id-preserved : goal.loop-id-preserved
loop-id-preserved c =
    entry_passed c.args.up c.args.path.0 (λ d. kept_at d c.args.leaves.now) c.args.universe.now.ids c.loop-id.id-iterator c.next.new.self c.in-Some.id.0
    c.loop-id.entries.items c.in-Some.ensures.steps c.loop-id.invariant
    (c.in_default.ensures ∙ ap (first_value c.args.up c.args.path.0) (c.as_slice.ensures.value ∙ c.in_ok-copy_under.ensures)
    ∙ first_under c.args.up c.args.path.0 (kept_at c.in-Some.id.0 c.args.leaves.now))
