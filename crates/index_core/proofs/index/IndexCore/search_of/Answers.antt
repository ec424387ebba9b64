use Rattle.std.proofs.Common.{◌≡◌, ◌+◌, ◌-◌, ◌≤◌, ◌^◌, min, length, ap, ap₂, sym, ◌∙◌, arith}
use Rattle.search_call.specs.SearchView.{SearchView}
use Rattle.search_call.specs.Windows.{offset_of, limit_of}
use Rattle.search_settings.specs.Asked.{paths_asked}
use Rattle.index_changes.specs.Index.{Index}
use Rattle.index_core.specs.Found.{most_hits, window_end}
use Rattle.index_core.proofs.index.IndexCore.search_of.Goals as goal

pub asked_paths-requires : goal.asked_paths-requires
asked_paths-requires c =
    let most = c.self.invariant.rows.sound.paths_within in
    omega (arith, ap length c.paths.ensures)

pub returns : goal.returns
returns c =
    let now = c.args.self.now in
    let call = c.args.call.now in
    let same = c.self.view_is in
    let seen = c.call.view_is in
    let most : c.max_total_hits.result ≤ 1000000 = omega (arith, c.max_total_hits.ensures.number, c.max_total_hits.ensures.limit) in
    let end : c.window_end-end.result ≡ window_end (most_hits now) call =
    c.window_end-end.ensures
    ∙ ap₂ (λ n (v : SearchView). min (offset_of v.window + limit_of v.window) n) (c.max_total_hits.ensures.number ∙ ap (λ (i : Index). i.settings.max_total_hits) same) seen in
    record {
      graph = c.requires.graph;
      costs = c.requires.costs;
      filter = ap (λ (v : SearchView). v.filter) seen;
      rules = c.as_slice.ensures.value ∙ c.requires.rules;
      start = c.window_start-offset.ensures ∙ ap (λ (v : SearchView). min (offset_of v.window) (2 ^ 64 - 1)) seen;
      limit = c.saturating_sub.ensures ∙ ap (λ n. n - c.window_start-offset.result) end;
      within = (let bound = c.window_end-end.ensures in omega (arith, sym end, bound, most));
      most = c.max_values_per_facet.ensures.number ∙ ap (λ (i : Index). i.settings.max_values_per_facet) same;
      attributes = c.in_ok-attributes.ensures ∙ ap (λ ps. paths_asked c.self.inside.settings ps call.facets) c.paths.ensures
          ∙ ap (λ (i : Index). paths_asked i.settings i.store.paths call.facets) same;
    }
