use Rattle.std.proofs.Common.{not, ◌&&◌, ◌||◌, ◌/◌, ◌^◌, take, get_or, eqb, sym, ap, ◌∙◌}
use Rattle.doc_sets.specs.Sets.{has}
use Rattle.posting_list.specs.Sets.{has_passing, is_part}
use Rattle.posting_list.proofs.SetLemmas.{taken, out_more}
use Rattle.posting_list.proofs.documents.take_out_each.Goals as goal

pub loop-entry-preserved : goal.loop-entry-preserved
loop-entry-preserved c = λ id.
    let p = is_part c.args.part in
    let gone = c.args.gone.now in
    let i = c.loop-entry.entry-index in
    let this = eqb (get_or gone i 0 / 2 ^ 32) id && p (get_or gone i 0) in
    let stays = has_passing p c.args.list.now.entries id in
    let first = has c.args.set.now.ids id in
    c.take_out.ensures id ∙ ap (λ b. b && (not this || stays)) (c.loop-entry.invariant id)
    ∙ out_more first (has_passing p (take i gone) id) this stays
    ∙ ap (λ b. first && (not b || stays)) (sym (taken (λ e. eqb (e / 2 ^ 32) id && p e) gone i c.loop-entry-test.true))
