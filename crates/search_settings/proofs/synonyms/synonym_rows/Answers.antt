use Rattle.std.proofs.Common.{List, [], ◌∷◌, ◌++◌, take, ap, sym, subst, ◌≡◌, ◌∙◌}
use Rattle.std.specs.List.{flat_map, AllByRecursion}
use Rattle.std.proofs.lemmas.Result.{IfOk-weaker}
use Rattle.std.proofs.lemmas.List.{flat_map_more, take_more}
use Rattle.synonym_terms.specs.SynonymRowView.{SynonymRowView}
use Rattle.synonym_terms.specs.Synonyms.{HasTerm}
use Rattle.index_settings.specs.View.{SynonymView}
use Rattle.search_settings.specs.QueryWords.{rows_under, words_of, each_once}
use Rattle.search_settings.proofs.EachOnce.{AreApart, once-apart, once-has-terms}
use Rattle.search_settings.proofs.SynonymLemmas.{rows-have-terms}
use Rattle.search_settings.proofs.synonyms.synonym_rows.Goals as goal

pub loop-list-preserved : goal.loop-list-preserved
loop-list-preserved c =
    let f : SynonymView → List SynonymRowView = λ (list : SynonymView). rows_under (words_of list.key) list.texts in
    let items = c.synonyms-list-items.result.now in
    let i = c.loop-list.list-index in
    let list = c.list-item.result in
    c.in_ok-add_rows.ensures ∙ ap (λ v. v ++ f list) c.loop-list.invariant ∙ flat_map_more f [] (take i items) list
    ∙ ap (flat_map f) (sym (take_more items i list c.loop-list-test.true ∙ ap (λ v. take i items ++ v ∷ []) (sym c.list-item.is)))

pub returns-clause-terms : goal.returns-clause-terms
returns-clause-terms c =
    let rows = subst (AllByRecursion HasTerm) (sym c.loop-list.invariant) (rows-have-terms (take c.loop-list.list-index c.synonyms-list-items.result.now)) in
    IfOk-weaker c.each_once.result (λ kept. kept.items ≡ each_once c.loop-list.rows.items) (λ kept. AllByRecursion HasTerm kept.items)
    (λ kept is. subst (AllByRecursion HasTerm) (sym is) (once-has-terms c.loop-list.rows.items rows)) c.each_once.ensures

pub returns-clause-once : goal.returns-clause-once
returns-clause-once c =
    IfOk-weaker c.each_once.result (λ kept. kept.items ≡ each_once c.loop-list.rows.items) (λ kept. AreApart kept.items)
    (λ kept is. subst AreApart (sym is) (once-apart c.loop-list.rows.items)) c.each_once.ensures
