use Rattle.std.proofs.Common.{◌||◌, ◌&&◌, ◌/◌, ◌^◌, take, get_or, eqb, sym, ap, ◌∙◌}
use Rattle.doc_sets.specs.Sets.{has}
use Rattle.doc_sets.proofs.SetLemmas.{has-with_id}
use Rattle.posting_list.specs.Sets.{has_passing, is_part}
use Rattle.posting_list.proofs.SetLemmas.{taken, put_more, with_pass}
use Rattle.posting_list.proofs.documents.put_in_each.Goals as goal

pub loop-entry-preserved : goal.loop-entry-preserved
loop-entry-preserved c = λ id.
    let p = is_part c.args.part in
    let come = c.args.come.now in
    let i = c.loop-entry.entry-index in
    let x = get_or come i 0 in
    let old = c.loop-entry.set.ids in
    let first = has c.args.set.now.ids id in
    let this = eqb (x / 2 ^ 32) id && p x in
    ap (λ v. has v id) c.if-not-put_in_room.ensures.put ∙ has-with_id c.document_of.result.0 id old
    ∙ ap (λ d. eqb d id || has old id) c.document_of.ensures
    ∙ ap (λ b. b || has old id) (with_pass (eqb (x / 2 ^ 32) id) (p x) (sym c.is_part.ensures ∙ c.if-not-is_part.false))
    ∙ ap (λ b. this || b) (c.loop-entry.invariant id) ∙ put_more (has_passing p (take i come) id) this first
    ∙ ap (λ b. b || first) (sym (taken (λ e. eqb (e / 2 ^ 32) id && p e) come i c.loop-entry-test.true))
