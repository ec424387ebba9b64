use Rattle.std.proofs.Common.{◌||◌, ◌∙◌, sym, ap}
use Rattle.doc_sets.specs.Sets.{has, with_id}
use Rattle.list_facets.proofs.HitLemmas.{bit_more}
use Rattle.list_facets.proofs.matching.bits_of.Goals as goal

pub loop-id-preserved : goal.loop-id-preserved
loop-id-preserved c = λ d.
    bit_more c.operations_are_on_members.ensures c.loop-id.bits.ids c.set.new.self.ids c.next.new.self c.in-Some.id.0 d
    (c.set.ensures.ids ∙ ap (λ xs. with_id c.in-Some.id.0 xs) c.in_ok-grow.ensures.ids)
    ∙ ap (λ xs. has xs d || has c.loop-id.bits.ids d) (sym c.in-Some.ensures.steps) ∙ c.loop-id.invariant d
