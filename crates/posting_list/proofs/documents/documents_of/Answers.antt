use Rattle.std.proofs.Common.{Bool, true, false, ◌≡◌, ◌||◌, ◌/◌, ◌^◌, refl, ap, ◌∙◌, sym, eqb}
use Rattle.doc_sets.specs.Sets.{has}
use Rattle.doc_sets.proofs.SetLemmas.{has-with_id}
use Rattle.posting_list.specs.Sets.{has_passing, is_part}
use Rattle.posting_list.proofs.SetLemmas.{with_pass}
use Rattle.posting_list.proofs.documents.documents_of.Goals as goal

turned : (a b c : Bool) → (a || (b || c)) ≡ ((b || a) || c)
turned true true c = refl
turned true false c = refl
turned false true c = refl
turned false false c = refl

pub loop-entry-preserved : goal.loop-entry-preserved
loop-entry-preserved c = λ q.
    let p = is_part c.args.part in
    let id = c.document_of.result.0 in
    let entry = c.in-Some.entry in
    let left = has_passing p c.next.new.self q in
    let old = has c.loop-entry.builder q in
    ap (λ v. left || has v q) c.in_ok-add_id.ensures.ids ∙ ap (λ b. left || b) (has-with_id id q c.loop-entry.builder)
    ∙ turned left (eqb id q) old ∙ ap (λ d. (eqb d q || left) || old) c.document_of.ensures
    ∙ ap (λ b. (b || left) || old) (with_pass (eqb (entry / 2 ^ 32) q) (p entry) (sym c.is_part.ensures ∙ c.if-not-is_part.false))
    ∙ ap (λ v. has_passing p v q || old) (sym c.in-Some.ensures.steps) ∙ c.loop-entry.invariant q
