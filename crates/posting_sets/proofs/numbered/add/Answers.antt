use Rattle.std.proofs.Common.{◌||◌, ◌&&◌, ap₂, ◌∙◌, eqb, rules}
use Rattle.sorted_pages.specs.Entries.{has}
use Rattle.posting_sets.proofs.NumberLemmas.{one_more, on_ok}
use Rattle.posting_sets.proofs.numbered.add.Goals as goal

pub returns-clause-each : goal.returns-clause-each
returns-clause-each c = on_ok c.add_id.result c.add_id.ensures.ids (λ e n q.
    let sets = c.make_up_to.new.sets.items in
    one_more sets c.from.result c.args.id.0 c.index_mut.result.now c.add_id.new.self (search rules) c.index_mut.ensures.value e n q
    ∙ ap₂ (λ at v. (eqb at n && eqb c.args.id.0 q) || has v q) c.from.ensures (c.in_ok-make_up_to.ensures.same n))
