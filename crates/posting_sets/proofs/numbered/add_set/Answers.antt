use Rattle.std.proofs.Common.{◌||◌, ◌&&◌, ap, ap₂, ◌∙◌, eqb, rules}
use Rattle.sorted_pages.specs.Entries.{has}
use Rattle.sorted_pages.proofs.SetLemmas.{has-filter}
use Rattle.doc_sets.proofs.SetLemmas.{has-union}
use Rattle.posting_sets.proofs.NumberLemmas.{one_changed, on_ok}
use Rattle.posting_sets.proofs.numbered.add_set.Goals as goal

pub returns-clause-each : goal.returns-clause-each
returns-clause-each c = on_ok c.add.result c.add.ensures.ids (λ e n q.
    let sets = c.make_up_to.new.sets.items in
    let ids = c.args.universe.now.ids in
    let set = c.args.set.now.ids in
    let more = has ids q && has set q in
    one_changed sets c.from.result c.index_mut.result.now c.add.new.self q more (search rules) c.index_mut.ensures.value
    (ap (λ v. has v q) e ∙ has-union c.in_ok-inside.inside.ids c.index_mut.result.now q
    ∙ ap (λ b. b || has c.index_mut.result.now q) (ap (λ v. has v q) c.in_ok-inside.ensures ∙ has-filter (has set) ids q)) n
    ∙ ap₂ (λ at v. (eqb at n && more) || has v q) c.from.ensures (c.in_ok-make_up_to.ensures.same n))
