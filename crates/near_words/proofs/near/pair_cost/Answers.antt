use Rattle.std.proofs.Common.{◌-◌, ◌∙◌, ap}
use Rattle.near_words.proofs.DocumentLemmas.{document_cost}
use Rattle.near_words.proofs.near.pair_cost.Goals as goal

pub returns-clause-document : goal.returns-clause-document
returns-clause-document c = λ id places is_left is_right narrow lefts rights.
    c.saturating_sub.ensures ∙ ap (λ n. n - 1) c.least_distance.ensures
    ∙ document_cost id places is_left is_right c.args.left.now c.args.right.now narrow lefts rights
