use Rattle.std.proofs.Common.{◌≡◌, ◌∙◌, ℕ, List, [], ◌∷◌, ◌++◌, ap, subst, unwrap_or, cond}
use Rattle.std.specs.List.{each_same}
use Rattle.synonym_terms.specs.SynonymRowView.{SynonymRowView}
use Rattle.synonym_terms.specs.Keyed.{numbers_at}
use Rattle.synonym_terms.specs.Synonyms.{is_keyed}
use Rattle.synonym_terms.proofs.KeyLemmas.{added}
use Rattle.synonym_terms.proofs.table.add_number.Goals as goal

pub returns : goal.returns
returns c =
    subst (λ (row : SynonymRowView). (words : List (List ℕ)) → numbers_at c.insert.new.self words ≡ numbers_at c.args.numbers.now words ++ cond (is_keyed words row) (c.args.number ∷ []) []) c.row.view_is
    (added c.args.numbers.now c.remove.new.self c.insert.new.self (record { key = c.row.inside.key.items; term = c.row.inside.term.items }) c.args.number c.as_slice.result.now
    c.in_ok-clone.field-0 c.unwrap_or-list.result c.push.new.self c.new.result c.as_slice.ensures.value c.remove.ensures.updates
    (c.unwrap_or-list.ensures ∙ ap (λ o. unwrap_or o c.new.result) c.remove.ensures.value) c.new.ensures.items c.in_ok-push.ensures.items
    (each_same _ _ c.in_ok-clone.ensures.cases.0) c.in_ok-insert.ensures.updates)
