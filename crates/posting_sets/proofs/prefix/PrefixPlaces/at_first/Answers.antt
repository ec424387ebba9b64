use Rattle.posting_sets.specs.Prefixes.{prefix_term}
use Rattle.posting_sets.proofs.OccursLemmas.{ok_of}
use Rattle.posting_sets.proofs.FirstLemmas.{first_of_numbers}
use Rattle.posting_sets.proofs.prefix.PrefixPlaces.at_first.Goals as goal

pub returns : goal.returns
returns c = ok_of _ _ c.first_set.result c.first_set.ensures (λ set made documents are.
    first_of_numbers documents (prefix_term c.args.self.now) c.args.universe.now.ids c.len-documents.ensures.increasing c.in_ok-sets.sets.items set.ids
    made.0 made.1 (c.in_ok-sets.ensures.each documents are))
