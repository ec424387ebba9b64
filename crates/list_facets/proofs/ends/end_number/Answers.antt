use Rattle.std.proofs.Common.{None, Some, sym, ◌∙◌}
use Rattle.list_facets.proofs.EndLemmas.{first_number}
use Rattle.list_facets.proofs.ends.end_number.Goals as goal

pub returns-in-Some : goal.returns-in-Some
returns-in-Some g c = λ rows are.
    let documents = g.I.Indexed.documents c.args.index.now in
    c.number_of.ensures
    ∙ first_number c.args.up c.args.path.0 documents rows are c.args.matching.now.ids (Some c.in-Some.first)
    (sym c.in-Some.is ∙ c.in_ok-first.ensures documents c.facets.ensures)

pub returns-in-None : goal.returns-in-None
returns-in-None g c = λ rows are.
    let documents = g.I.Indexed.documents c.args.index.now in
    first_number c.args.up c.args.path.0 documents rows are c.args.matching.now.ids None
    (sym c.in-None.is ∙ c.in_ok-first.ensures documents c.facets.ensures)
