-- The documents that match, by their ids and by their rows.
use Rattle.std.proofs.Common.{◌≡◌, ℕ, suc, ◌<◌, ◌==◌, ◌&&◌, Bool, true, false, cond, List, [], ◌∷◌, length, map, Option, Some, None, refl, sym, ap, ◌∙◌, arith}
use Rattle.std.specs.Option.{option_map, is_some}
use Rattle.std.specs.List.{AllByRecursion, cons_option}
use Rattle.search_base.specs.declared.rule.Rule.{Rule}
use Rattle.search_base.specs.GraphView.{GraphView}
use Rattle.search_base.specs.RowsView.{RowsView}
use Rattle.search_base.specs.Tuple.{tuple, cost_of, entry}
use Rattle.doc_sets.specs.Sets.{AreAbove}
use Rattle.doc_rows.specs.declared.path_use.PathUse.{PathUse}
use Rattle.doc_store.specs.Store.{Row}
use Rattle.doc_store.specs.Sound.{Increase}
use Rattle.row_index.specs.Documents.{IndexedDocument, AreApart, document_at}
use Rattle.row_index.specs.Standing.{faceted}
use Rattle.facet_index.specs.Batches as facets
use Rattle.facet_index.specs.LeavesView.{leaves_of}
use Rattle.list_facets.specs.Rows.{AreRowsOf}
use Rattle.rule_buckets.specs.Matches.{match_at, ids_of}
use Rattle.filter_tree.specs.Tree.{Tree}
use Rattle.doc_search.specs.Matches.{AreInOrder, matches_among, opened, passing}
use Rattle.doc_search.specs.Rows.{rows_of, rows_at}
use Rattle.doc_index.specs.Documents.{documents_of}
use Rattle.doc_index.proofs.SameLemmas.{all-from, at-among}
use Rattle.doc_search.specs.Matched.{rows_matching}
use Rattle.std.proofs.lemmas.List.{length-map}
use Rattle.search_base.specs.Hits.{Match}
use Rattle.rule_buckets.specs.Matches as lists
use Rattle.rule_buckets.specs.Rules.{RulesView}
use Rattle.rule_buckets.proofs.Slices.{AreMade, made-matches, made-matching, made-opened}
use Rattle.rule_buckets.specs.declared.hits.HitWindow.{HitWindow}
use Rattle.doc_search.specs.Found.{AreRulesOver, passes}
use Rattle.doc_search.specs.Searched.{DocumentsView}
use Rattle.doc_search.proofs.MatchLemmas.{matches_over}
use Rattle.doc_search.proofs.OrderLemmas.{apart_in_order}

-- ---- documents of a store are in order
above-ids : (paths : List (List ℕ)) (uses : List PathUse) (n low : ℕ) (rows : List Row) (high : ℕ) → Increase low rows high → n < low → AreAbove n (map (λ (d : IndexedDocument). d.id) (documents_of paths uses rows))
above-ids paths uses n low [] high h lt = tt
above-ids paths uses n low (r ∷ rows) high h lt = (omega (arith, h.0), above-ids paths uses n (suc r.id) rows high h.1 (omega (arith, h.0)))

pub in-order : (paths : List (List ℕ)) (uses : List PathUse) (low : ℕ) (rows : List Row) (high : ℕ) → Increase low rows high → AreInOrder (documents_of paths uses rows)
in-order paths uses low [] high h = tt
in-order paths uses low (r ∷ rows) high h = (above-ids paths uses r.id (suc r.id) rows high h.1 (omega arith), in-order paths uses (suc r.id) rows high h.1)

-- ---- the rows of the ids that match
rows-there : (documents : List IndexedDocument) → AreApart documents → AllByRecursion (λ (d : IndexedDocument). rows_at documents d.id ≡ d.rows) documents
rows-there documents apart = all-from (λ (d : IndexedDocument). rows_at documents d.id ≡ d.rows) documents (λ d among. ap rows_of (at-among documents d apart among))

module _ (passes : RowsView → Bool) (query : GraphView) (rules : List Rule) where
  rows-among : (all ds : List IndexedDocument) → AllByRecursion (λ (d : IndexedDocument). rows_at all d.id ≡ d.rows) ds
      → map (rows_at all) (ids_of (matches_among passes query rules ds)) ≡ rows_matching passes query ds
  rows-among all [] h = refl
  rows-among all (d ∷ ds) h = by (passes d.rows) refl (cost_of d.rows.places query.levels) refl (rows-among all ds h.1)
    where
      by : (b : Bool) → passes d.rows ≡ b → (o : Option ℕ) → cost_of d.rows.places query.levels ≡ o
          → map (rows_at all) (ids_of (matches_among passes query rules ds)) ≡ rows_matching passes query ds
          → map (rows_at all) (ids_of (matches_among passes query rules (d ∷ ds))) ≡ rows_matching passes query (d ∷ ds)
      by false e o is rest =
          ap (λ b. map (rows_at all) (ids_of (cons_option (option_map (match_at d.id) (cond b (tuple d.rows query rules) None)) (matches_among passes query rules ds)))) e ∙ rest
          ∙ sym (ap (λ b. cond (b && is_some (cost_of d.rows.places query.levels)) (d.rows ∷ rows_matching passes query ds) (rows_matching passes query ds)) e)
      by true e None is rest =
          ap (λ b. map (rows_at all) (ids_of (cons_option (option_map (match_at d.id) (cond b (tuple d.rows query rules) None)) (matches_among passes query rules ds)))) e
          ∙ ap (λ o. map (rows_at all) (ids_of (cons_option (option_map (match_at d.id) (option_map (λ level. map (entry d.rows query level) rules) o)) (matches_among passes query rules ds)))) is ∙ rest
          ∙ sym (ap (λ b. cond (b && is_some (cost_of d.rows.places query.levels)) (d.rows ∷ rows_matching passes query ds) (rows_matching passes query ds)) e
          ∙ ap (λ o. cond (is_some o) (d.rows ∷ rows_matching passes query ds) (rows_matching passes query ds)) is)
      by true e (Some n) is rest =
          ap (λ b. map (rows_at all) (ids_of (cons_option (option_map (match_at d.id) (cond b (tuple d.rows query rules) None)) (matches_among passes query rules ds)))) e
          ∙ ap (λ o. map (rows_at all) (ids_of (cons_option (option_map (match_at d.id) (option_map (λ level. map (entry d.rows query level) rules) o)) (matches_among passes query rules ds)))) is
          ∙ ap (λ r. r ∷ map (rows_at all) (ids_of (matches_among passes query rules ds))) h.0 ∙ ap (λ rs. d.rows ∷ rs) rest
          ∙ sym (ap (λ b. cond (b && is_some (cost_of d.rows.places query.levels)) (d.rows ∷ rows_matching passes query ds) (rows_matching passes query ds)) e
          ∙ ap (λ o. cond (is_some o) (d.rows ∷ rows_matching passes query ds) (rows_matching passes query ds)) is)

  pub rows-matched : (documents : List IndexedDocument) → AreApart documents → map (rows_at documents) (ids_of (matches_among passes query rules documents)) ≡ rows_matching passes query documents
  rows-matched documents apart = rows-among documents documents (rows-there documents apart)

-- ---- the leaves of the rows of an id
pub are-rows : (documents : List IndexedDocument) → AreRowsOf (rows_at documents) (map faceted documents)
are-rows [] id = refl
are-rows (d ∷ ds) id = by (d.id == id) (are-rows ds id)
  where
    by : (b : Bool) → (rows_at ds id).leaves ≡ leaves_of (facets.document_at id (map faceted ds))
        → (rows_of (cond b (Some d) (document_at id ds))).leaves ≡ leaves_of (cond b (Some (faceted d)) (facets.document_at id (map faceted ds)))
    by true rest = refl
    by false rest = rest

-- ---- what rules over the documents that pass and match give

abbrev pub rows_among : DocumentsView → ℕ → RowsView
rows_among among = rows_at among.documents

module _ (among : DocumentsView) (query : GraphView) (tree : Tree) (rules : List Rule) (made : RulesView DocumentsView)
    (over : AreRulesOver among query tree rules made) where
  abbrev universe : List ℕ
  universe = passing (passes among tree) among.documents

  abbrev matches : List Match
  matches = matches_among (passes among tree) query rules among.documents

  are : AreMade rows_among made among query rules universe
  are = record { source_is = over.source_is; graph_is = over.query_is; rules_are = over.rules_are; matching_is = over.matching_is }

  among-all : lists.matches_among (rows_at among.documents) query rules universe ≡ matches
  among-all = matches_over (passes among tree) query rules among.documents universe over.order refl

  pub same-matches : lists.matches_in rows_among made ≡ matches
  same-matches = made-matches rows_among made among query rules universe are ∙ among-all

  same-matching : made.matching ≡ ids_of matches
  same-matching = made-matching rows_among made among query rules universe are ∙ ap ids_of among-all

  pub same-total : length made.matching ≡ length matches
  same-total = ap length same-matching ∙ length-map matches (λ (m : Match). m.id)

  pub same-opened : (window : HitWindow) → lists.opened_in rows_among made window ≡ opened (passes among tree) query rules among.documents window.offset window.limit
  same-opened window = made-opened rows_among made among query rules universe are window

  pub same-rows : map (rows_at among.documents) made.matching ≡ rows_matching (passes among tree) query among.documents
  same-rows = ap (map (rows_at among.documents)) same-matching ∙ rows-matched (passes among tree) query rules among.documents (apart_in_order among.documents over.order)
