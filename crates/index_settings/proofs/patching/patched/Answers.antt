use Rattle.std.proofs.Common.{codes, subst, ap, ◌∙◌}
use Rattle.std.specs.Rc.{rc_slice_items}
use Rattle.serde_json.specs.Find.{get, as_str}
use Rattle.serde_json.specs.View.{view}
use Rattle.index_settings.specs.Inside.{settings_view}
use Rattle.index_settings.specs.Limits.{AreInOrder}
use Rattle.index_settings.specs.Patch.{chosen}
use Rattle.index_settings.specs.Values.{number_in, texts_in, synonyms_in}
use Rattle.index_settings.proofs.Bounds.{patched_within}
use Rattle.index_settings.proofs.patching.patched.Goals as goal

pub invariant_of-result : goal.invariant_of-result
invariant_of-result c =
    let lists = c.in_ok-synonyms_after.ensures.lists ∙ ap (chosen (rc_slice_items c.old.inside.synonyms) (rc_slice_items c.default.inside.synonyms) synonyms_in) c.get-10.ensures in
    rw (
      c.in_ok-texts_after.ensures ∙ ap (chosen (rc_slice_items c.old.inside.displayed_attributes) (rc_slice_items c.default.inside.displayed_attributes) texts_in) c.get.ensures,
      c.in_ok-attribute_after.ensures ∙ ap (chosen c.old.inside.distinct_attribute c.default.inside.distinct_attribute as_str) c.get-2.ensures,
      c.in_ok-texts_after-2.ensures ∙ ap (chosen (rc_slice_items c.old.inside.filterable_attributes) (rc_slice_items c.default.inside.filterable_attributes) texts_in) c.get-3.ensures,
      c.number_inside_after.ensures ∙ ap (chosen c.old.inside.max_total_hits c.default.inside.max_total_hits (λ inside. chosen c.old.inside.max_total_hits c.default.inside.max_total_hits number_in (get (codes "maxTotalHits") inside))) c.get-4.ensures,
      c.number_inside_after-2.ensures ∙ ap (chosen c.old.inside.max_values_per_facet c.default.inside.max_values_per_facet (λ inside. chosen c.old.inside.max_values_per_facet c.default.inside.max_values_per_facet number_in (get (codes "maxValuesPerFacet") inside))) c.get-5.ensures,
      c.in_ok-texts_after-3.ensures ∙ ap (chosen (rc_slice_items c.old.inside.ranking_rules) (rc_slice_items c.default.inside.ranking_rules) texts_in) c.get-6.ensures,
      c.in_ok-texts_after-4.ensures ∙ ap (chosen (rc_slice_items c.old.inside.searchable_attributes) (rc_slice_items c.default.inside.searchable_attributes) texts_in) c.get-7.ensures,
      c.in_ok-texts_after-5.ensures ∙ ap (chosen (rc_slice_items c.old.inside.sortable_attributes) (rc_slice_items c.default.inside.sortable_attributes) texts_in) c.get-8.ensures,
      c.in_ok-texts_after-6.ensures ∙ ap (chosen (rc_slice_items c.old.inside.stop_words) (rc_slice_items c.default.inside.stop_words) texts_in) c.get-9.ensures,
      lists,
    )
    (patched_within (view c.args.members.now) c.requires (settings_view c.default.inside) (settings_view c.old.inside) c.default.invariant c.old.invariant (subst AreInOrder lists c.in_ok-synonyms_after.ensures.in_order))

pub returns : goal.returns
returns c =
    rw (
      ← c.default.view_is,
      ← c.old.view_is,
      c.in_ok-texts_after.ensures ∙ ap (chosen (rc_slice_items c.old.inside.displayed_attributes) (rc_slice_items c.default.inside.displayed_attributes) texts_in) c.get.ensures,
      c.in_ok-attribute_after.ensures ∙ ap (chosen c.old.inside.distinct_attribute c.default.inside.distinct_attribute as_str) c.get-2.ensures,
      c.in_ok-texts_after-2.ensures ∙ ap (chosen (rc_slice_items c.old.inside.filterable_attributes) (rc_slice_items c.default.inside.filterable_attributes) texts_in) c.get-3.ensures,
      c.number_inside_after.ensures ∙ ap (chosen c.old.inside.max_total_hits c.default.inside.max_total_hits (λ inside. chosen c.old.inside.max_total_hits c.default.inside.max_total_hits number_in (get (codes "maxTotalHits") inside))) c.get-4.ensures,
      c.number_inside_after-2.ensures ∙ ap (chosen c.old.inside.max_values_per_facet c.default.inside.max_values_per_facet (λ inside. chosen c.old.inside.max_values_per_facet c.default.inside.max_values_per_facet number_in (get (codes "maxValuesPerFacet") inside))) c.get-5.ensures,
      c.in_ok-texts_after-3.ensures ∙ ap (chosen (rc_slice_items c.old.inside.ranking_rules) (rc_slice_items c.default.inside.ranking_rules) texts_in) c.get-6.ensures,
      c.in_ok-texts_after-4.ensures ∙ ap (chosen (rc_slice_items c.old.inside.searchable_attributes) (rc_slice_items c.default.inside.searchable_attributes) texts_in) c.get-7.ensures,
      c.in_ok-texts_after-5.ensures ∙ ap (chosen (rc_slice_items c.old.inside.sortable_attributes) (rc_slice_items c.default.inside.sortable_attributes) texts_in) c.get-8.ensures,
      c.in_ok-texts_after-6.ensures ∙ ap (chosen (rc_slice_items c.old.inside.stop_words) (rc_slice_items c.default.inside.stop_words) texts_in) c.get-9.ensures,
      c.in_ok-synonyms_after.ensures.lists ∙ ap (chosen (rc_slice_items c.old.inside.synonyms) (rc_slice_items c.default.inside.synonyms) synonyms_in) c.get-10.ensures,
    )
