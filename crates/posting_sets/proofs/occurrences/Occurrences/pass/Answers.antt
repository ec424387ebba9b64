use Rattle.std.proofs.Common.{ap, ltb, ◌∙◌}
use Rattle.std.specs.List.{filter}
use Rattle.posting_sets.specs.Entries.{document_of}
use Rattle.posting_sets.proofs.StartLemmas.{starts_passed}
use Rattle.posting_sets.proofs.occurrences.Occurrences.pass.Goals as goal

pub returns : goal.returns
returns c =
    let s = c.self.inside in
    starts_passed s.universe.now.ids s.lists.items s.at c.args.id.0 s.walked c.pass_document.new.entries c.pass_document.ensures
    ∙ ap (filter (λ x. ltb c.args.id.0 (document_of x))) c.self.view_is
