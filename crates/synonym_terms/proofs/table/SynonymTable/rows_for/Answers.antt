use Rattle.std.proofs.Common.{◌≡◌, ◌∙◌, ◌<◌, List, [], length, map, sym, ap, subst, IfOk}
use Rattle.std.specs.List.{AllByRecursion}
use Rattle.std.specs.Option.{option_map_or}
use Rattle.search_base.specs.TermView.{TermView}
use Rattle.synonym_terms.specs.SynonymRowView.{SynonymRowView}
use Rattle.synonym_terms.specs.Synonyms.{terms_for}
use Rattle.synonym_terms.proofs.KeyLemmas.{row_at, rows_read}
use Rattle.synonym_terms.proofs.table.SynonymTable.rows_for.Goals as goal

pub terms_at-requires : goal.terms_at-requires
terms_at-requires c =
    let is = c.as_slice-in-Some.ensures.value ∙ ap (λ found. option_map_or (λ list. list.items) found []) c.in-Some.ensures.value ∙ c.self.invariant.keyed c.args.words.now in
    subst (λ (rows : List SynonymRowView). AllByRecursion (λ n. n < length rows) c.as_slice-in-Some.result.now) (sym c.as_slice.ensures.value)
    (rows_read c.self.inside.rows.items c.args.words.now c.as_slice-in-Some.result.now is).0

pub returns-in-Some : goal.returns-in-Some
returns-in-Some c =
    let is = c.as_slice-in-Some.ensures.value ∙ ap (λ found. option_map_or (λ list. list.items) found []) c.in-Some.ensures.value ∙ c.self.invariant.keyed c.args.words.now in
    let read = (rows_read c.self.inside.rows.items c.args.words.now c.as_slice-in-Some.result.now is).1 in
    subst (λ (terms : List TermView). IfOk c.terms_at.result (λ list. list.items ≡ terms))
    (ap (λ (rows : List SynonymRowView). map (row_at rows) c.as_slice-in-Some.result.now) c.as_slice.ensures.value ∙ read ∙ ap (λ rows. terms_for rows c.args.words.now) c.self.view_is)
    c.terms_at.ensures

pub returns-in-None : goal.returns-in-None
returns-in-None c =
    let is = ap (λ found. option_map_or (λ list. list.items) found []) c.in-None.ensures.value ∙ c.self.invariant.keyed c.args.words.now in
    c.new.ensures.items ∙ (rows_read c.self.inside.rows.items c.args.words.now [] is).1 ∙ ap (λ rows. terms_for rows c.args.words.now) c.self.view_is
