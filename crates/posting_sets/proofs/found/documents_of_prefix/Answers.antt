use Rattle.std.proofs.Common.{true, [], ◌∷◌, sym, ap}
use Rattle.posting_sets.specs.Found.{term_of}
use Rattle.posting_sets.proofs.OccursLemmas.{ok_of}
use Rattle.posting_sets.proofs.GatheredLemmas.{occurring_so}
use Rattle.posting_sets.proofs.found.documents_of_prefix.Goals as goal

pub returns : goal.returns
returns c = ok_of _ _ c.documents.result c.documents.ensures (λ set are.
    occurring_so c.args.postings.now c.in_ok-places.places (term_of true (c.args.prefix.now ∷ []))
    (ap (λ word. term_of true (word ∷ [])) (sym c.in_ok-places.ensures.prefix)) c.in_ok-places.ensures.gathered c.args.universe.now.ids set.ids are)
