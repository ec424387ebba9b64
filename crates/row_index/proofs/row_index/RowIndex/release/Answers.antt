use Rattle.std.proofs.Common.{refl, sym, subst}
use Rattle.row_index.specs.Standing.{StandsFor}
use Rattle.row_index.specs.Changes.{IsTightBut}
use Rattle.row_index.proofs.AfterLemmas.{stands_as_before}
use Rattle.row_index.proofs.row_index.RowIndex.release.Goals as goal

pub returns-clause-same : goal.returns-clause-same
returns-clause-same c = λ documents stands.
    stands_as_before (record { places = c.self.inside.places; lengths = c.self.inside.lengths; facets = c.self.inside.facets; leaves = c.self.inside.leaves; ids = c.self.inside.ids.ids })
    (record { places = c.release.new.self; lengths = c.release-2.new.self; facets = c.release-3.new.self; leaves = c.self.inside.leaves; ids = c.self.inside.ids.ids }) documents
    (record { places = c.release.ensures.lists; lengths = c.release-2.ensures.lists; facets = c.release-3.ensures.lists; leaves = λ id. refl; ids = refl })
    (subst (λ v. StandsFor v documents) (sym c.self.view_is) stands)

pub returns-clause-tight : goal.returns-clause-tight
returns-clause-tight c = λ given.
    let prepared = subst (λ v. IsTightBut v c.args.self.now) (sym c.prepared.view_is) given in
    let tight = subst (λ v. IsTightBut (record { places = c.prepared.inside.places; lengths = c.prepared.inside.lengths; facets = c.prepared.inside.facets; leaves = c.prepared.inside.leaves; ids = c.prepared.inside.ids.ids }) v)
    (sym c.self.view_is) prepared in
    record { places = c.release.ensures.tight tight.places; lengths = c.release-2.ensures.tight tight.lengths; facets = c.release-3.ensures.tight tight.facets }
