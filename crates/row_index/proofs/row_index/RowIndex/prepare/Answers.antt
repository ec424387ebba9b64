use Rattle.std.proofs.Common.{not, ◌&&◌, ◌||◌, map, refl, sym, ap, ap₂, subst, ◌∙◌}
use Rattle.std.proofs.lemmas.Result.{err_from_is_err_and}
use Rattle.doc_sets.specs.Sets.{has}
use Rattle.leaf_table.specs.Changes.{numbers, IsLeafChangeOf}
use Rattle.row_index.specs.Standing.{StandsFor, placed, faceted}
use Rattle.row_index.specs.Changes.{IsChangeOf, IsTight, AnswersAsBefore}
use Rattle.row_index.proofs.AfterLemmas.{stands_as_before}
use Rattle.row_index.proofs.row_index.RowIndex.prepare.Goals as goal

pub returns-in_err-leaves-clause-same : goal.returns-in_err-leaves-clause-same
returns-in_err-leaves-clause-same c = λ documents stands.
    stands_as_before (record { places = c.self.inside.places; lengths = c.self.inside.lengths; facets = c.self.inside.facets; leaves = c.self.inside.leaves; ids = c.self.inside.ids.ids })
    (record { places = c.self.inside.places; lengths = c.self.inside.lengths; facets = c.self.inside.facets; leaves = c.prepare.new.self; ids = c.self.inside.ids.ids }) documents
    (record { places = λ word. refl; lengths = λ key. refl; facets = λ key. refl; leaves = c.prepare.ensures.same; ids = refl })
    (subst (λ v. StandsFor v documents) (sym c.self.view_is) stands)

pub returns-in_err-leaves-clause-tight : goal.returns-in_err-leaves-clause-tight
returns-in_err-leaves-clause-tight c = λ given.
    let p = err_from_is_err_and c.from_residual-in_err-leaves.result c.from_residual-in_err-leaves.ensures.1 in
    let tight = subst IsTight (sym c.self.view_is) given in
    rw p.1 (record { places = tight.places; lengths = tight.lengths; facets = tight.facets })

pub returns-in_err-places-clause-same : goal.returns-in_err-places-clause-same
returns-in_err-places-clause-same c = λ documents stands.
    stands_as_before (record { places = c.self.inside.places; lengths = c.self.inside.lengths; facets = c.self.inside.facets; leaves = c.self.inside.leaves; ids = c.self.inside.ids.ids })
    (record { places = c.prepare-2.new.self; lengths = c.self.inside.lengths; facets = c.self.inside.facets; leaves = c.prepare.new.self; ids = c.self.inside.ids.ids }) documents
    (record { places = c.prepare-2.ensures.lists; lengths = λ key. refl; facets = λ key. refl; leaves = c.prepare.ensures.same; ids = refl })
    (subst (λ v. StandsFor v documents) (sym c.self.view_is) stands)

pub returns-in_err-places-clause-tight : goal.returns-in_err-places-clause-tight
returns-in_err-places-clause-tight c = λ given.
    let p = err_from_is_err_and c.from_residual-in_err-places.result c.from_residual-in_err-places.ensures.1 in
    let tight = subst IsTight (sym c.self.view_is) given in
    rw p.1 (record { places = c.in_err-places.ensures.tight tight.places; lengths = tight.lengths; facets = tight.facets })

pub returns-in-Err-clause-answers : goal.returns-in-Err-clause-answers
returns-in-Err-clause-answers c =
    subst (λ v. AnswersAsBefore v (record { places = c.release.new.self; lengths = c.prepare-3.new.self; facets = c.self.inside.facets; leaves = c.prepare.new.self; ids = c.self.inside.ids.ids }))
    c.self.view_is
    (record {
      places = λ word. c.release.ensures.lists word ∙ c.prepare-2.ensures.lists word;
      lengths = c.prepare-3.ensures.lists;
      facets = λ key. refl;
      leaves = c.prepare.ensures.same;
      ids = refl;
    })

pub returns-in-Err-clause-same : goal.returns-in-Err-clause-same
returns-in-Err-clause-same c = λ documents stands.
    stands_as_before (record { places = c.self.inside.places; lengths = c.self.inside.lengths; facets = c.self.inside.facets; leaves = c.self.inside.leaves; ids = c.self.inside.ids.ids })
    (record { places = c.release.new.self; lengths = c.prepare-3.new.self; facets = c.self.inside.facets; leaves = c.prepare.new.self; ids = c.self.inside.ids.ids }) documents
    (record {
      places = λ word. c.release.ensures.lists word ∙ c.prepare-2.ensures.lists word;
      lengths = c.prepare-3.ensures.lists;
      facets = λ key. refl;
      leaves = c.prepare.ensures.same;
      ids = refl;
    })
    (subst (λ v. StandsFor v documents) (sym c.self.view_is) stands)

pub returns-in-Err-clause-tight : goal.returns-in-Err-clause-tight
returns-in-Err-clause-tight c = λ given.
    let tight = subst IsTight (sym c.self.view_is) given in
    record {
      places = c.release.ensures.tight (c.in_ok-places.ensures.tight tight.places);
      lengths = c.in-Err.ensures.tight tight.lengths;
      facets = tight.facets;
    }

pub returns-in-Ok-prepare-clause-answers : goal.returns-in-Ok-prepare-clause-answers
returns-in-Ok-prepare-clause-answers c =
    subst (λ v. AnswersAsBefore v (record { places = c.prepare-2.new.self; lengths = c.prepare-3.new.self; facets = c.prepare-4.new.self; leaves = c.prepare.new.self; ids = c.self.inside.ids.ids }))
    c.self.view_is
    (record { places = c.prepare-2.ensures.lists; lengths = c.prepare-3.ensures.lists; facets = c.prepare-4.ensures.lists; leaves = c.prepare.ensures.same; ids = refl })

pub returns-in-Ok-prepare-clause-same : goal.returns-in-Ok-prepare-clause-same
returns-in-Ok-prepare-clause-same c = λ documents stands.
    stands_as_before (record { places = c.self.inside.places; lengths = c.self.inside.lengths; facets = c.self.inside.facets; leaves = c.self.inside.leaves; ids = c.self.inside.ids.ids })
    (record { places = c.prepare-2.new.self; lengths = c.prepare-3.new.self; facets = c.prepare-4.new.self; leaves = c.prepare.new.self; ids = c.self.inside.ids.ids }) documents
    (record { places = c.prepare-2.ensures.lists; lengths = c.prepare-3.ensures.lists; facets = c.prepare-4.ensures.lists; leaves = c.prepare.ensures.same; ids = refl })
    (subst (λ v. StandsFor v documents) (sym c.self.view_is) stands)

pub returns-in-Ok-prepare-clause-made : goal.returns-in-Ok-prepare-clause-made
returns-in-Ok-prepare-clause-made c = λ gone come change.
    let named = subst (λ v. IsChangeOf v gone come) (sym c.change.view_is) change in
    record {
      places = c.in_ok-places.ensures.made (map placed gone) (map placed come) named.places;
      lengths = c.in-Ok.ensures.made (map placed gone) (map placed come) named.lengths;
      facets = c.in-Ok-prepare.ensures.made (map faceted gone) (map faceted come) named.facets;
      leaves = subst (λ v. IsLeafChangeOf v (map faceted gone) (map faceted come)) (sym c.in_ok-leaves.ensures.made) named.leaves;
      ids = λ id. c.in_ok-ids.ensures id
          ∙ ap₂ (λ comes goes. comes || (has c.self.inside.ids.ids id && not goes))
          (ap (λ ids. has (numbers ids) id) c.as_slice-2.ensures.value ∙ named.comes id)
          (ap (λ ids. has (numbers ids) id) c.as_slice.ensures.value ∙ named.goes id);
    }

pub returns-in-Ok-prepare-clause-tight : goal.returns-in-Ok-prepare-clause-tight
returns-in-Ok-prepare-clause-tight c = λ given.
    let tight = subst IsTight (sym c.self.view_is) given in
    record {
      places = c.in_ok-places.ensures.tight tight.places;
      lengths = c.in-Ok.ensures.tight tight.lengths;
      facets = c.in-Ok-prepare.ensures.tight tight.facets;
    }

pub returns-clause-same : goal.returns-clause-same
returns-clause-same c = λ documents stands.
    stands_as_before (record { places = c.self.inside.places; lengths = c.self.inside.lengths; facets = c.self.inside.facets; leaves = c.self.inside.leaves; ids = c.self.inside.ids.ids })
    (record {
      places = c.release-in-Err-prepare-2.new.self;
      lengths = c.release-in-Err-prepare.new.self;
      facets = c.prepare-4.new.self;
      leaves = c.prepare.new.self;
      ids = c.self.inside.ids.ids;
    }) documents
    (record {
      places = λ word. c.release-in-Err-prepare-2.ensures.lists word ∙ c.prepare-2.ensures.lists word;
      lengths = λ key. c.release-in-Err-prepare.ensures.lists key ∙ c.prepare-3.ensures.lists key;
      facets = c.prepare-4.ensures.lists;
      leaves = c.prepare.ensures.same;
      ids = refl;
    })
    (subst (λ v. StandsFor v documents) (sym c.self.view_is) stands)

pub returns-clause-tight : goal.returns-clause-tight
returns-clause-tight c = λ given.
    let tight = subst IsTight (sym c.self.view_is) given in
    record {
      places = c.release-in-Err-prepare-2.ensures.tight (c.in_ok-places.ensures.tight tight.places);
      lengths = c.release-in-Err-prepare.ensures.tight (c.in-Ok.ensures.tight tight.lengths);
      facets = c.in-Err-prepare.ensures.tight tight.facets;
    }
