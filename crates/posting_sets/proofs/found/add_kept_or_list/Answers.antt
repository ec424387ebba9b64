use Rattle.std.proofs.Common.{◌&&◌, ◌||◌, ap, ◌∙◌}
use Rattle.doc_sets.specs.Sets.{has}
use Rattle.doc_sets.proofs.SetLemmas.{has-union}
use Rattle.posting_sets.proofs.NumberLemmas.{on_ok}
use Rattle.posting_sets.proofs.found.add_kept_or_list.Goals as goal

pub returns-in-Some : goal.returns-in-Some
returns-in-Some c = on_ok c.add.result c.add.ensures.ids (λ more q.
    let ids = c.args.universe.now.ids in
    let old = c.args.builder.now in
    ap (λ b. has ids q && b) (ap (λ v. has v q) more ∙ has-union c.in-Some.kept.now.ids old q
    ∙ ap (λ b. b || has old q) (c.in-Some.ensures q)))
