use Rattle.posting_sets.specs.Gathered.{place_number}
use Rattle.posting_sets.specs.Prefixes.{prefix_term}
use Rattle.posting_sets.proofs.OccursLemmas.{ok_of}
use Rattle.posting_sets.proofs.ByNumberLemmas.{least_at}
use Rattle.posting_sets.proofs.prefix.PrefixPlaces.documents_by.Goals as goal

pub returns : goal.returns
returns c = ok_of _ _ c.least_sets.result c.least_sets.ensures (λ rows least. record {
  up = least.up;
  some = least.some;
  each = λ documents are.
      least_at documents (prefix_term c.args.self.now) (place_number c.args.number) c.args.universe.now.ids c.in_ok-sets.sets.items rows.items
      c.len-documents.ensures.increasing (c.in_ok-sets.ensures.each documents are) least;
})
