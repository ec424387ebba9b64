use Rattle.std.proofs.Common.{true, [], ◌∷◌, sym, ap}
use Rattle.posting_sets.specs.Found.{term_of}
use Rattle.posting_sets.specs.Gathered.{place_number}
use Rattle.posting_sets.proofs.OccursLemmas.{ok_of}
use Rattle.posting_sets.proofs.GatheredLemmas.{of_numbers_so}
use Rattle.posting_sets.proofs.by_number.numbers_of_prefix.Goals as goal

pub returns-clause-each : goal.returns-clause-each
returns-clause-each c = ok_of _ _ c.numbers.result c.numbers.ensures.each (λ sets are.
    of_numbers_so c.args.postings.now c.in_ok-places.places (term_of true (c.args.prefix.now ∷ []))
    (ap (λ word. term_of true (word ∷ [])) (sym c.in_ok-places.ensures.prefix)) c.in_ok-places.ensures.gathered c.args.universe.now.ids
    (place_number c.args.number) sets.items are)
