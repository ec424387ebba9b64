-- A search for no word, where no rule asks for a value of documents: all cost the same, and stand in the order of their ids.
use Rattle.std.proofs.Common.{◌≡◌, ℕ, suc, Bool, true, false, List, [], ◌∷◌, map, take, drop, Option, Some, None, refl, sym, ap, ◌∙◌}
use Rattle.std.specs.Prelude.{◌&&◌}
use Rattle.std.specs.Option.{option_map}
use Rattle.std.specs.List.{AllByRecursion, filter_map, cons_option, list_all}
use Rattle.std.proofs.lemmas.Bool.{cond-true, true≢false}
use Rattle.std.proofs.lemmas.List.{drop-map, take-map}
use Rattle.search_base.specs.declared.cost_key.CostKey.{CostKey}
use Rattle.search_base.specs.declared.cost_key.CostKey.TheVariants as cost
use Rattle.search_base.specs.declared.rule.Rule.{Rule}
use Rattle.search_base.specs.declared.rule.Rule.TheVariants.{Words, Proximity, Field, Position, Whole, Inexact, Up, Down}
use Rattle.search_base.specs.EmptyQuery.{is_query_rule}
use Rattle.search_base.specs.Hits.{Match}
use Rattle.search_base.specs.Query.{Query, entry_under, sum_under, whole_under, cost_under, tuple_under}
use Rattle.search_base.specs.RowsView.{RowsView}
use Rattle.search_call.specs.SearchView.{SearchView}
use Rattle.filter_tree.specs.Tree as tree
use Rattle.row_filter.specs.Holds.{holds}
use Rattle.rule_buckets.specs.Matches.{match_at, ids_of, hits_of}
use Rattle.serde_json.specs.Data.{Data}
use Rattle.doc_store.specs.Store.{Row, row_at}
use Rattle.doc_store.specs.Sound.{Increase}
use Rattle.index_changes.specs.Index.{Index}
use Rattle.index_core.specs.Matching.{Matching, with_costs, match_of, query_in, rows_in, rules_in}
use Rattle.index_core.specs.Found.{hit_of}
use Rattle.index_core.specs.Laws.{AskOfTheQuery}
use Rattle.index_changes.proofs.ByIds.{IsThere}
use Rattle.index_core.proofs.Finding.{as_match, IsMatch}
use Rattle.index_core.proofs.InOrder.{RiseAlike, part-of}

-- ---- all cost nothing

abbrev pub no_costs : List Rule → List CostKey
no_costs rules = map (λ rule. cost.Number 0) rules

entry-nothing : (rows : RowsView) (query : Query) (rule : Rule) → query.levels ≡ [] → is_query_rule rule ≡ true → entry_under rows query 0 rule ≡ cost.Number 0
entry-nothing rows query Words none ask = refl
entry-nothing rows query Proximity none ask = ap (λ ls. cost.Number (sum_under Proximity rows.places ls 0)) none
entry-nothing rows query Field none ask = ap (λ ls. cost.Number (sum_under Field rows.places ls 0)) none
entry-nothing rows query Position none ask = ap (λ ls. cost.Number (sum_under Position rows.places ls 0)) none
entry-nothing rows query Whole none ask = ap (λ ls. cost.Number (whole_under rows.places ls query.whole)) none
entry-nothing rows query Inexact none ask = ap (λ ls. cost.Number (sum_under Inexact rows.places ls 0)) none
entry-nothing rows query (Up path) none ask = absurd (true≢false (sym ask))
entry-nothing rows query (Down path) none ask = absurd (true≢false (sym ask))

both : (a b : Bool) → a && b ≡ true → (a ≡ true) × (b ≡ true)
both true b h = (refl, h)
both false b h = absurd (true≢false (sym h))

entries-nothing : (rows : RowsView) (query : Query) (rules : List Rule) → query.levels ≡ [] → list_all is_query_rule rules ≡ true → map (entry_under rows query 0) rules ≡ no_costs rules
entries-nothing rows query [] none ask = refl
entries-nothing rows query (rule ∷ rules) none ask =
    let h = both (is_query_rule rule) (list_all is_query_rule rules) ask in
    ap (λ v. v ∷ map (entry_under rows query 0) rules) (entry-nothing rows query rule none h.0) ∙ ap (λ v. cost.Number 0 ∷ v) (entries-nothing rows query rules none h.1)

tuple-nothing : (rows : RowsView) (query : Query) (rules : List Rule) → query.levels ≡ [] → list_all is_query_rule rules ≡ true → tuple_under rows query rules ≡ Some (no_costs rules)
tuple-nothing rows query rules none ask =
    ap (λ ls. option_map (λ level. map (entry_under rows query level) rules) (cost_under rows.places ls)) none ∙ ap Some (entries-nothing rows query rules none ask)

pub empty-matching : (index : Index) (call : SearchView) → (query_in index call).levels ≡ [] → AskOfTheQuery (rules_in index call) → call.filter ≡ tree.all → (rows : List Row)
    → filter_map (match_of index call) rows ≡ map (λ r. with_costs r (no_costs (rules_in index call))) rows
empty-matching index call none ask unfiltered [] = refl
empty-matching index call none ask unfiltered (r ∷ rows) =
    ap (λ o. cons_option (option_map (with_costs r) o) (filter_map (match_of index call) rows)) (cond-true (holds index.store.paths (rows_in index r.document) call.filter) _ None (ap (holds index.store.paths (rows_in index r.document)) unfiltered) ∙ tuple-nothing (rows_in index r.document) (query_in index call) (rules_in index call) none ask)
    ∙ ap (λ v. with_costs r (no_costs (rules_in index call)) ∷ v) (empty-matching index call none ask unfiltered rows)

-- ---- in the order of their internal ids

abbrev matched : List CostKey → Row → Match
matched costs r = match_at r.id costs

rows-rise : (costs : List CostKey) (low : ℕ) (rows : List Row) (high : ℕ) → Increase low rows high → RiseAlike costs low (map (matched costs) rows)
rows-rise costs low [] high h = tt
rows-rise costs low (r ∷ rows) high h = ((h.0, refl), rows-rise costs (suc r.id) rows high h.1)

seen-matched : (costs : List CostKey) (rows : List Row) → map as_match (map (λ r. with_costs r costs) rows) ≡ map (matched costs) rows
seen-matched costs [] = refl
seen-matched costs (r ∷ rows) = ap (λ v. matched costs r ∷ v) (seen-matched costs rows)

ids-matched : (costs : List CostKey) (rows : List Row) → ids_of (map (matched costs) rows) ≡ map (λ r. r.id) rows
ids-matched costs [] = refl
ids-matched costs (r ∷ rows) = ap (λ v. r.id ∷ v) (ids-matched costs rows)

-- the ids of the hits are those of a part of the documents
pub listed : (costs : List CostKey) (rows : List Row) (high offset size : ℕ) → Increase 0 rows high
    → ids_of (hits_of (map as_match (map (λ r. with_costs r costs) rows)) offset size) ≡ map (λ r. r.id) (take size (drop offset rows))
listed costs rows high offset size rise =
    ap ids_of (ap (λ ms. hits_of ms offset size) (seen-matched costs rows) ∙ part-of costs (map (matched costs) rows) offset size (rows-rise costs 0 rows high rise)
    ∙ ap (take size) (drop-map (matched costs) offset rows) ∙ take-map (matched costs) size (drop offset rows)) ∙ ids-matched costs (take size (drop offset rows))

-- ---- the documents of ids

abbrev pub document_at : List Row → ℕ → Option Data
document_at rows id = option_map (λ r. r.document) (row_at id rows)

pub documents-read : (rows some : List Row) → AllByRecursion (IsThere rows) some → filter_map (document_at rows) (map (λ r. r.id) some) ≡ map (λ r. r.document) some
documents-read rows [] h = refl
documents-read rows (r ∷ some) h =
    ap (λ o. cons_option (option_map (λ (v : Row). v.document) o) (filter_map (document_at rows) (map (λ r. r.id) some))) h.0 ∙ ap (λ v. r.document ∷ v) (documents-read rows some h.1)

pub hits-documents : (index : Index) (call : SearchView) (hits : List Matching) → AllByRecursion (IsMatch index call) hits
    → filter_map (document_at index.store.rows) (ids_of (map as_match hits)) ≡ map (λ hit. hit.document) (map (hit_of call) hits)
hits-documents index call [] h = refl
hits-documents index call (m ∷ hits) h =
    ap (λ o. cons_option (option_map (λ (v : Row). v.document) o) (filter_map (document_at index.store.rows) (ids_of (map as_match hits)))) h.0.there
    ∙ ap (λ v. m.row.document ∷ v) (hits-documents index call hits h.1)
