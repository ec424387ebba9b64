use Rattle.std.proofs.Common.{[], ◌∷◌, ◌++◌, ap, ap₂, sym, ◌∙◌, append_assoc, cond, Bool}
use Rattle.synonym_terms.specs.SynonymRowView.{SynonymRowView}
use Rattle.std.specs.List.{list_any}
use Rattle.search_settings.specs.QueryWords.{each_once, is_seen, same_words}
use Rattle.search_settings.proofs.EachOnce.{row_of, unseen, once_more, none_seen}
use Rattle.search_settings.proofs.synonyms.each_once.Goals as goal

pub loop-row-init : goal.loop-row-init
loop-row-init c =
    ap₂ (λ v w. v ++ w) c.new-kept.ensures.items
    (none_seen (λ row. is_seen c.new-seen.result row) (λ row. ap (list_any (λ words. same_words row (row_of words))) c.new-seen.ensures.empty) (each_once c.into_iter-row-iterator.result.rest.items))

pub loop-row-preserved : goal.loop-row-preserved
loop-row-preserved c =
    let seen : SynonymRowView → Bool = λ row. is_seen c.loop-row.seen row in
    let new : SynonymRowView → Bool = λ row. is_seen c.add_new.new.seen row in
    let row = c.in-Some.row in
    let rest = c.next.new.self.rest.items in
    ap (λ v. v ++ unseen new (each_once rest)) c.in_ok-add_new.ensures.kept
    ∙ append_assoc c.loop-row.kept.items (cond (seen row) [] (row ∷ [])) (unseen new (each_once rest))
    ∙ ap (λ v. c.loop-row.kept.items ++ v) (once_more seen new row c.in_ok-add_new.ensures.seen rest)
    ∙ ap (λ v. c.loop-row.kept.items ++ unseen seen (each_once v)) (sym c.in-Some.ensures.steps.0)
    ∙ c.loop-row.invariant
