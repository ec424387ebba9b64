use Rattle.std.proofs.Common.{ap, ap₂, ◌∙◌}
use Rattle.std.specs.Prelude.{not, ◌||◌}
use Rattle.std.specs.List.{each_same}
use Rattle.synonym_terms.specs.SynonymRowView.{SynonymRowView}
use Rattle.search_settings.specs.QueryWords.{same_words, is_seen}
use Rattle.search_settings.proofs.EachOnce.{seen_at, seen_more}
use Rattle.search_settings.proofs.synonyms.is_new.Goals as goal

pub returns-clause-new : goal.returns-clause-new
returns-clause-new c =
    let term = c.in_ok-clone.field-0 in
    let key = c.in_ok-clone-2.field-0 in
    c.in_ok-insert.ensures.added ∙ ap not (seen_at (term, key) c.args.seen.now.keys)
    ∙ ap₂ (λ t k. not (is_seen c.args.seen.now (record { key = k; term = t }))) (each_same _ _ c.in_ok-clone.ensures.cases.0) (each_same _ _ c.in_ok-clone-2.ensures.cases.0)
    ∙ ap (λ (row : SynonymRowView). not (is_seen c.args.seen.now row)) c.row.view_is

pub returns-clause-seen : goal.returns-clause-seen
returns-clause-seen c = λ other.
    let term = c.in_ok-clone.field-0 in
    let key = c.in_ok-clone-2.field-0 in
    ap (λ keys. is_seen (record { keys = keys }) other) c.in_ok-insert.ensures.keys
    ∙ seen_more (term, key) c.args.seen.now.keys other
    ∙ ap₂ (λ t k. same_words other (record { key = k; term = t }) || is_seen c.args.seen.now other) (each_same _ _ c.in_ok-clone.ensures.cases.0) (each_same _ _ c.in_ok-clone-2.ensures.cases.0)
    ∙ ap (λ (row : SynonymRowView). same_words other row || is_seen c.args.seen.now other) c.row.view_is
