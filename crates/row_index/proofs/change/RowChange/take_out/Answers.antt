use Rattle.std.proofs.Common.{◌==◌, ◌||◌, ◌∷◌, map, refl, sym, ap, ap₂, subst, ◌∙◌}
use Rattle.doc_sets.specs.Sets.{has}
use Rattle.postings.specs.Changes as postings
use Rattle.path_lengths.specs.Measured.{IsLengthChangeOf}
use Rattle.facet_index.specs.LeavesView.{leaves_at}
use Rattle.facet_index.specs.Batches.{IsChangeFor}
use Rattle.leaf_table.specs.Changes.{numbers}
use Rattle.row_index.specs.Standing.{placed, faceted}
use Rattle.row_index.specs.Changes.{IsChangeOf}
use Rattle.row_index.proofs.IdLemmas.{has_behind}
use Rattle.row_index.proofs.PartLemmas.{placed_at}
use Rattle.row_index.proofs.change.RowChange.take_out.Goals as goal

pub returns : goal.returns
returns c = λ gone come change.
    let named = subst (λ v. IsChangeOf v gone come) (sym c.self.view_is) change in
    record {
      places = subst (λ places. postings.IsChangeOf c.take_out.new.self (placed_at c.args.id.0 places ∷ map placed gone) (map placed come))
          (c.as_slice-places.ensures.value ∙ ap (λ rows. rows.places) c.rows.view_is)
          (c.in_ok-take_out.ensures (map placed gone) (map placed come) named.places);
      lengths = subst (λ places. IsLengthChangeOf c.take_out-2.new.self (placed_at c.args.id.0 places ∷ map placed gone) (map placed come))
          (c.as_slice-places.ensures.value ∙ ap (λ rows. rows.places) c.rows.view_is)
          (c.in_ok-take_out-2.ensures (map placed gone) (map placed come) named.lengths);
      facets = subst (λ leaves. IsChangeFor c.take_out-3.new.self (leaves ∷ map faceted gone) (map faceted come))
          (ap₂ (leaves_at c.args.id.0) (c.as_slice-leaves.ensures.value ∙ ap (λ rows. rows.leaves) c.rows.view_is)
          (c.as_slice-marks.ensures.value ∙ ap (λ rows. rows.marks) c.rows.view_is))
          (c.in_ok-take_out-3.ensures (map faceted gone) (map faceted come) named.facets);
      leaves = c.in_ok-take_out-4.ensures (leaves_at c.args.id.0 c.args.rows.now.leaves c.args.rows.now.marks) (map faceted gone) (map faceted come) refl named.leaves;
      goes = λ id. ap (λ ids. has (numbers ids) id) c.in_ok-push.ensures.items ∙ has_behind c.self.inside.gone.items c.args.id id
          ∙ ap (λ b. (c.args.id.0 == id) || b) (named.goes id);
      comes = named.comes;
    }
