use Rattle.std.proofs.Common.{◌≡◌, length, ap, subst, ◌∙◌, arith}
use Rattle.search_base.specs.Query.{tuple_under}
use Rattle.search_base.specs.Terms.{terms_of, terms_under, HaveSame}
use Rattle.search_call.specs.SearchView.{SearchView}
use Rattle.index_core.specs.declared.ranking.Ranking.{Ranking}
use Rattle.index_changes.specs.Index.{Index}
use Rattle.index_core.specs.Matching.{query_in, rules_in}
use Rattle.search_settings.specs.Uses.{uses_from}
use Rattle.index_core.specs.Ranking.{IsRankingOf}
use Rattle.search_settings.specs.Rules.{rules_with}
use Rattle.index_core.proofs.index.IndexCore.ranking.Goals as goal

pub rules_of-requires : goal.rules_of-requires
rules_of-requires c =
    let most = c.self.invariant.rows.sound.paths_within in
    omega (arith, ap length c.paths-paths.ensures)

pub returns : goal.returns
returns c =
    let index : Index = record { key = c.self.inside.key; store = c.self.inside.store.content; settings = c.self.inside.settings } in
    let call = c.args.call.now in
    let used : c.as_slice.result.now ≡ uses_from index.settings 0 index.store.paths = c.as_slice.ensures.value ∙ c.self.invariant.rows.uses in
    let ranking : Ranking = record { uses = c.as_slice.result; query = c.in_ok-query.field-0; rules = c.in_ok-rules_of.field-0 } in
    subst (λ (i : Index). IsRankingOf ranking i call) c.self.view_is (record {
      uses = used;
      graph = c.in_ok-query.ensures.sound;
      costs = λ rows.
          c.in_ok-query.ensures.costs index.settings c.self.invariant.words rows (rules_in index call)
          ∙ ap (λ (v : SearchView). tuple_under rows (query_in index v) (rules_in index call)) c.call.view_is;
      terms = subst (λ (v : SearchView). HaveSame (terms_of ranking.query) (terms_under (query_in index v))) c.call.view_is
          (c.in_ok-query.ensures.terms index.settings c.self.invariant.words);
      rules =
          c.in_ok-rules_of.ensures ∙ ap (λ ps. rules_with index.settings ps c.deref.result.now) c.paths-paths.ensures
          ∙ ap (rules_with index.settings index.store.paths) (c.deref.ensures.value ∙ ap (λ (v : SearchView). v.sort) c.call.view_is);
    })
