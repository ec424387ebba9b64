use Rattle.std.proofs.Common.{map, refl, sym, subst}
use Rattle.postings.specs.Fresh as postings
use Rattle.path_lengths.specs.Measured.{AreLengthsOf}
use Rattle.facet_index.specs.Places.{IsIndexOf}
use Rattle.leaf_table.specs.Tables.{AreLeavesOf}
use Rattle.row_index.specs.Standing.{StandsFor, placed, faceted}
use Rattle.row_index.specs.Changes.{IsPreparedOf, IsTightBut}
use Rattle.row_index.proofs.PartLemmas.{after_placed, after_faceted, batch_placed, batch_faceted}
use Rattle.row_index.proofs.AfterLemmas.{stands_after}
use Rattle.row_index.proofs.row_index.RowIndex.commit.Goals as goal

pub returns-clause-stands : goal.returns-clause-stands
returns-clause-stands c = λ gone come documents given batch stands.
    let prepared = subst (λ v. IsPreparedOf c.args.self.now v gone come) (sym c.prepared.view_is) given in
    let stood = subst (λ v. StandsFor v documents) (sym c.self.view_is) stands in
    stands_after c.args.self.now
    (record { places = c.commit.new.self; lengths = c.commit-2.new.self; facets = c.commit-3.new.self; leaves = c.commit-4.new.self; ids = c.prepared.inside.ids.ids })
    (record { places = c.prepared.inside.places; lengths = c.prepared.inside.lengths; facets = c.prepared.inside.facets; leaves = c.prepared.inside.leaves; ids = c.prepared.inside.ids.ids })
    gone come documents prepared stands refl
    (subst (postings.StandsFor c.commit.new.self) (after_placed gone come documents)
    (c.commit.ensures.fresh (map placed gone) (map placed come) (map placed documents) prepared.places (batch_placed gone come documents batch) stood.places))
    (subst (AreLengthsOf c.commit-2.new.self) (after_placed gone come documents)
    (c.commit-2.ensures.fresh (map placed gone) (map placed come) (map placed documents) prepared.lengths (batch_placed gone come documents batch) stood.lengths))
    (subst (IsIndexOf c.commit-3.new.self) (after_faceted gone come documents)
    (c.commit-3.ensures.index (map faceted gone) (map faceted come) (map faceted documents) prepared.facets (batch_faceted gone come documents batch) stood.facets))
    (subst (AreLeavesOf c.commit-4.new.self) (after_faceted gone come documents)
    (c.commit-4.ensures (map faceted gone) (map faceted come) (map faceted documents) prepared.leaves stood.leaves))

pub returns-clause-tight : goal.returns-clause-tight
returns-clause-tight c = λ given.
    let prepared = subst (λ v. IsTightBut v c.args.self.now) (sym c.prepared.view_is) given in
    let tight = subst (λ v. IsTightBut (record { places = c.prepared.inside.places; lengths = c.prepared.inside.lengths; facets = c.prepared.inside.facets; leaves = c.prepared.inside.leaves; ids = c.prepared.inside.ids.ids }) v)
    (sym c.self.view_is) prepared in
    record { places = c.commit.ensures.tight tight.places; lengths = c.commit-2.ensures.tight tight.lengths; facets = c.commit-3.ensures.tight tight.facets }
