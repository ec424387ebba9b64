use Rattle.std.proofs.Common.{◌++◌, ◌∙◌, ap}
use Rattle.facet_keys.specs.Keys.{IsNarrow}
use Rattle.facet_index.specs.Counted.{counted_of}
use Rattle.facet_index.specs.Ends.{ends_of}
use Rattle.facet_index.specs.Places.{places_of, leaf_facets, mark_facets}
use Rattle.facet_index.proofs.KeyLemmas.{places_by_kind, all_both}
use Rattle.facet_index.proofs.places.places_of.Goals as goal

pub returns-clause-places : goal.returns-clause-places
returns-clause-places c = λ id.
    c.in_ok-add_counted.ensures.places
    ∙ ap (λ places. places ++ places_of (counted_of c.args.leaves.now))
    (c.in_ok-add_ends.ensures.places
    ∙ ap (λ places. places ++ places_of (ends_of c.args.leaves.now))
    (c.in_ok-add_marks.ensures.places
    ∙ ap (λ places. places ++ places_of (mark_facets c.args.marks.now))
    (c.in_ok-add_leaves.ensures.places ∙ ap (λ places. places ++ places_of (leaf_facets c.args.leaves.now)) c.new-places.ensures.items)))
    ∙ places_by_kind (leaf_facets c.args.leaves.now) (mark_facets c.args.marks.now) (ends_of c.args.leaves.now) (counted_of c.args.leaves.now)

pub returns-clause-narrow : goal.returns-clause-narrow
returns-clause-narrow c = λ id.
    all_both (λ x. IsNarrow x.0 x.1) (leaf_facets c.args.leaves.now) _ c.in_ok-add_leaves.ensures.narrow
    (all_both (λ x. IsNarrow x.0 x.1) (mark_facets c.args.marks.now) _ c.in_ok-add_marks.ensures.narrow
    (all_both (λ x. IsNarrow x.0 x.1) (ends_of c.args.leaves.now) (counted_of c.args.leaves.now)
    c.in_ok-add_ends.ensures.narrow c.in_ok-add_counted.ensures.narrow))
