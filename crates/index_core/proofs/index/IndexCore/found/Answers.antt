use Rattle.std.proofs.Common.{◌≡◌, ◌+◌, ◌≤◌, map, Some, ap, sym, subst, ◌∙◌}
use Rattle.std.specs.Prelude.{IfOk, is_err}
use Rattle.std.specs.Option.{option_map}
use Rattle.doc_search.specs.Found.{distinct_in, opened_for, reach_in}
use Rattle.doc_search.specs.Valued as kept
use Rattle.rule_buckets.proofs.OpenLemmas.{opens-same as opens-as}
use Rattle.search_base.specs.declared.document.DocId.{DocId}
use Rattle.index_changes.specs.Index.{Index}
use Rattle.index_core.specs.Among.{IsFound, opened_found, compared_found, stored_values}
use Rattle.index_core.proofs.Reading.{if-found}
use Rattle.index_core.proofs.StoredLemmas.{values-same}
use Rattle.index_core.proofs.index.IndexCore.found.Goals as goal

pub returns-in-Some-kept_path-clause-found : goal.returns-in-Some-kept_path-clause-found
returns-in-Some-kept_path-clause-found g c =
    let now = c.args.self.now in
    let attribute = c.in-Some.attribute.now in
    let among = c.args.documents.now in
    let named : option_map (λ a. a.now) c.args.attribute ≡ Some attribute = ap (option_map (λ a. a.now)) c.in-Some.is in
    let same = ap (λ v. kept.values_under v.among.documents v.path) c.new-values.ensures
    ∙ values-same now attribute c.in-Some-kept_path.path among c.in-Some-kept_path.ensures c.requires.documents in
    subst (λ o. IfOk c.search_distinct.result (λ found. IsFound o now.store.rows among c.args.search found)) (sym named)
    (if-found c.search_distinct.result (Some attribute) now.store.rows among c.args.search
    (subst (λ values. IfOk c.search_distinct.result (λ found. map (λ (id : DocId). id.0) found.hits.items ≡ distinct_in among c.args.search values)) same c.search_distinct.ensures.hits)
    c.search_distinct.ensures.total c.search_distinct.ensures.facets)

pub returns-in-Some-kept_path-clause-opens : goal.returns-in-Some-kept_path-clause-opens
returns-in-Some-kept_path-clause-opens g c =
    let now = c.args.self.now in
    let attribute = c.in-Some.attribute.now in
    let among = c.args.documents.now in
    let named : option_map (λ a. a.now) c.args.attribute ≡ Some attribute = ap (option_map (λ a. a.now)) c.in-Some.is in
    let same = ap (λ v. kept.values_under v.among.documents v.path) c.new-values.ensures
    ∙ values-same now attribute c.in-Some-kept_path.path among c.in-Some-kept_path.ensures c.requires.documents in
    opens-as (is_err c.search_distinct.result) (opened_for among c.args.search (kept.values_under c.new-values.result.among.documents c.new-values.result.path)) _ _ _
    (ap (opened_for among c.args.search) same ∙ ap (λ o. opened_found o now.store.rows among c.args.search) (sym named)) c.search_distinct.ensures.opens

pub returns-in-None-clause-opens : goal.returns-in-None-clause-opens
returns-in-None-clause-opens g c =
    let now = c.args.self.now in
    let attribute = c.in-Some.attribute.now in
    let among = c.args.documents.now in
    let named : option_map (λ a. a.now) c.args.attribute ≡ Some attribute = ap (option_map (λ a. a.now)) c.in-Some.is in
    opens-as (is_err c.search_stored.result) _ _ _ _
    (ap (λ (i : Index). opened_for among c.args.search (stored_values attribute i.store.rows)) c.self.view_is
    ∙ ap (λ o. opened_found o now.store.rows among c.args.search) (sym named)) c.search_stored.ensures.opens

pub returns-in-None-clause-at_most : goal.returns-in-None-clause-at_most
returns-in-None-clause-at_most g c =
    let now = c.args.self.now in
    let attribute = c.in-Some.attribute.now in
    let among = c.args.documents.now in
    let named : option_map (λ a. a.now) c.args.attribute ≡ Some attribute = ap (option_map (λ a. a.now)) c.in-Some.is in
    subst (λ n. c.search_stored.new.fetches ≤ c.args.fetches.now + n)
    (ap (λ (i : Index). reach_in among c.args.search (stored_values attribute i.store.rows)) c.self.view_is
    ∙ ap (λ o. compared_found o now.store.rows among c.args.search) (sym named)) c.search_stored.ensures.fetches
