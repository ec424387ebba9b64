use Rattle.std.proofs.Common.{ℕ, List, [], ◌∷◌, ◌++◌, take, Option, ap, sym, ◌∙◌, append_assoc}
use Rattle.std.specs.List.{filter_map}
use Rattle.std.proofs.lemmas.List.{take_more}
use Rattle.std.proofs.lemmas.List.Elements.{filter_map-append}
use Rattle.synonym_terms.specs.SynonymRowView.{SynonymRowView}
use Rattle.search_settings.specs.QueryWords.{synonym_row, words_of}
use Rattle.search_settings.proofs.synonyms.add_texts.Goals as goal

pub loop-text-preserved : goal.loop-text-preserved
loop-text-preserved c =
    let h : List ℕ → Option SynonymRowView = λ text. synonym_row c.args.key.now.items (words_of text) in
    let texts = c.args.texts.now in
    let old = c.args.rows.now.items in
    let i = c.loop-text.text-index in
    let text = c.text-item.result in
    c.in_ok-add_text.ensures ∙ ap (λ v. v ++ filter_map h (text ∷ [])) c.loop-text.invariant ∙ append_assoc old (filter_map h (take i texts)) (filter_map h (text ∷ []))
    ∙ ap (λ v. old ++ v) (sym (filter_map-append h (take i texts) (text ∷ [])) ∙ ap (filter_map h) (sym (take_more texts i text c.loop-text-test.true ∙ ap (λ v. take i texts ++ v ∷ []) (sym c.text-item.is))))
