-- What a search opens over the documents of a store is what the index says.
use Rattle.std.proofs.Common.{◌≡◌, ℕ, zero, suc, ◌+◌, ◌-◌, ◌^◌, ◌<◌, ◌≤◌, ◌==◌, ◌⊎◌, inl, inr, min, Bool, true, false, cond, List, [], ◌∷◌, ◌++◌, length, map, Option, Some, None, refl, sym, ap, ap₂, subst, ◌∙◌, arith, append_assoc, length-append, unwrap_or}
use Rattle.std.specs.Prelude.{get_or, slice_get, option_and_then}
use Rattle.std.specs.Option.{option_map}
use Rattle.std.specs.List.{AllByRecursion, filter_map, cons_option}
use Rattle.std.proofs.lemmas.Bool.{cond-true, cond-false, eq-eqb, eqb-true, ne_eqb, le-ltb, true≢false}
use Rattle.std.proofs.lemmas.Option.{unwrap_or-slice_get}
use Rattle.std.proofs.Math.Seq.{get_or-append_seam}
use Rattle.search_base.specs.declared.cost_key.CostKey.{CostKey}
use Rattle.search_base.specs.declared.cost_key.CostKey.TheVariants.{Number}
use Rattle.search_base.specs.declared.rule.Rule.{Rule}
use Rattle.search_base.specs.CostOrder.{before}
use Rattle.search_base.specs.GraphView.{GraphView}
use Rattle.search_base.specs.RowsView.{RowsView}
use Rattle.search_base.specs.Tuple.{tuple, cost_of, entry}
use Rattle.search_call.specs.SearchView.{SearchView}
use Rattle.search_call.specs.Windows.{offset_of}
use Rattle.bucket_sort.specs.declared.log.Opening.{Opening}
use Rattle.bucket_sort.specs.Hits.{costs}
use Rattle.bucket_sort.specs.Trace.{trace, opened_classes, opening_of}
use Rattle.doc_index.specs.Documents.{documents_of, document_of}
use Rattle.doc_rows.specs.declared.path_use.PathUse.{PathUse}
use Rattle.doc_search.proofs.FoundLemmas.{in-order}
use Rattle.doc_store.specs.Sound.{IsSound}
use Rattle.doc_store.specs.Store.{Row, row_at}
use Rattle.doc_search.specs.Found.{passes_in, reach_in}
use Rattle.doc_search.specs.Matches.{passing}
use Rattle.doc_search.specs.Searched.{documents_in}
use Rattle.doc_search.specs.declared.found.Search.{Search}
use Rattle.doc_search.specs.Rows.{rows_at, rows_of}
use Rattle.doc_search.proofs.MatchLemmas.{matches_over}
use Rattle.rule_buckets.specs.Matches.{ids_of}
use Rattle.rule_buckets.specs.Matches as lists
use Rattle.rule_buckets.proofs.Slices.{entries-listed}
use Rattle.row_index.specs.Documents.{IndexedDocument, document_at}
use Rattle.rule_buckets.specs.Entries.{entry_at, entry_of}
use Rattle.index_core.specs.Among.{IsSearchOf, opened_found, stored_values}
use Rattle.index_core.specs.Found.{most_hits, window_end}
use Rattle.index_core.specs.Looked.{looked_under, unless_refused}
use Rattle.index_changes.specs.Index.{Index}
use Rattle.index_core.specs.Matching.{Matching, with_costs, match_of, matching, costs_in, rows_in, rules_in, uses_in}
use Rattle.search_settings.specs.SearchFaults.{search_fault}
use Rattle.bucket_sort.specs.Opens.{LogState, Opens}
use Rattle.index_core.specs.Opened.{costs_at, opened_in}
use Rattle.index_core.specs.Opened as index
use Rattle.index_changes.proofs.ByIds.{IsThere, rows-there}
use Rattle.index_core.proofs.Finding.{IsAsked, matches-same, costs-same, ids-matched, is-asked, reach-are}
use Rattle.rule_buckets.proofs.OpenLemmas.{opens-either}
use Rattle.index_core.proofs.Opening.{HasSame, opened-same, none-opened}

-- ---- a list of costs by its places

places-listed : (front xs : List CostKey) (d : ℕ) → costs before (λ level (_ : ℕ). get_or (front ++ xs) level (Number 0)) (length xs) (length front) d ≡ xs
places-listed front [] d = refl
places-listed front (x ∷ xs) d =
    ap (λ k. k ∷ costs before (by (front ++ x ∷ xs)) (length xs) (suc (length front)) d) (get_or-append_seam front x xs (Number 0))
    ∙ ap (λ ys. x ∷ ys) (ap (λ all. costs before (by all) (length xs) (suc (length front)) d) (sym (append_assoc front (x ∷ []) xs))
    ∙ ap (λ n. costs before (by ((front ++ x ∷ []) ++ xs)) (length xs) n d) longer ∙ places-listed (front ++ x ∷ []) xs d)
  where
    by : List CostKey → ℕ → ℕ → CostKey
    by all level e = get_or all level (Number 0)

    longer : suc (length front) ≡ length (front ++ x ∷ [])
    longer = let e = length-append front (x ∷ []) in omega (arith, e)

-- the entries of a document that matches are its costs
pub entries-are : (i : Index) (call : SearchView) (id : ℕ) (all : List CostKey) (n : ℕ) → costs_at i call id ≡ Some all → n ≡ length all → costs before (index.entry_at i call) n 0 id ≡ all
entries-are i call id all n is count = at-levels n 0 ∙ ap (λ m. costs before (λ level (_ : ℕ). get_or all level (Number 0)) m 0 id) count ∙ places-listed [] all id
  where
    at-levels : (n level : ℕ) → costs before (index.entry_at i call) n level id ≡ costs before (λ level (_ : ℕ). get_or all level (Number 0)) n level id
    at-levels zero level = refl
    at-levels (suc n) level =
        ap (λ k. k ∷ costs before (index.entry_at i call) n (suc level) id) (ap (λ o. unwrap_or (option_and_then (λ cs. slice_get cs level) o) (Number 0)) is ∙ unwrap_or-slice_get all level (Number 0))
        ∙ ap (λ ys. get_or all level (Number 0) ∷ ys) (at-levels n (suc level))

-- ---- documents that match

-- a document that matches is there and has its costs
pub record Matches (i : Index) (call : SearchView) (m : Matching) : Type 0 where
  pub there : row_at m.row.id i.store.rows ≡ Some m.row
  pub costs : costs_in i call m.row.document ≡ Some m.costs

pub matching-match : (i : Index) (call : SearchView) (rows : List Row) → AllByRecursion (IsThere i.store.rows) rows → AllByRecursion (Matches i call) (filter_map (match_of i call) rows)
matching-match i call [] h = tt
matching-match i call (r ∷ rows) h = by (costs_in i call r.document) refl (matching-match i call rows h.1)
  where
    by : (o : Option (List CostKey)) → costs_in i call r.document ≡ o → AllByRecursion (Matches i call) (filter_map (match_of i call) rows)
        → AllByRecursion (Matches i call) (cons_option (option_map (with_costs r) o) (filter_map (match_of i call) rows))
    by None e rest = rest
    by (Some all) e rest = (record { there = h.0; costs = e }, rest)

document-there : (paths : List (List ℕ)) (uses : List PathUse) (id : ℕ) (rows : List Row) (r : Row) → row_at id rows ≡ Some r → document_at id (documents_of paths uses rows) ≡ Some (document_of paths uses r)
document-there paths uses id [] r is = absurd (cc)
document-there paths uses id (x ∷ rows) r is = by (id == x.id) refl (document-there paths uses id rows r)
  where
    by : (b : Bool) → id == x.id ≡ b → (row_at id rows ≡ Some r → document_at id (documents_of paths uses rows) ≡ Some (document_of paths uses r))
        → document_at id (documents_of paths uses (x ∷ rows)) ≡ Some (document_of paths uses r)
    by true e again =
        let same : Some x ≡ Some r = sym (cond-true (id == x.id) (Some x) (row_at id rows) e) ∙ is in
        let here : x ≡ r = cc in
        cond-true (x.id == id) _ _ (eq-eqb x.id id (sym (eqb-true id x.id e))) ∙ ap (λ v. Some (document_of paths uses v)) here
    by false e again =
        cond-false (x.id == id) _ _ (ne_eqb x.id id (λ s. absurd (true≢false (sym (eq-eqb id x.id (sym s)) ∙ e))))
        ∙ again (sym (cond-false (id == x.id) (Some x) (row_at id rows) e) ∙ is)

-- the costs by a graph are the entries of the rules
tuple-entries : (rows : RowsView) (graph : GraphView) (rules : List Rule) (all : List CostKey) → tuple rows graph rules ≡ Some all → (map (entry_of rows graph) rules ≡ all) × (length rules ≡ length all)
tuple-entries rows graph rules all is = by (cost_of rows.places graph.levels) refl
  where
    length-mapped : {A B : Type 0} (f : A → B) (xs : List A) → length xs ≡ length (map f xs)
    length-mapped f [] = refl
    length-mapped f (x ∷ xs) = ap suc (length-mapped f xs)

    by : (o : Option ℕ) → cost_of rows.places graph.levels ≡ o → (map (entry_of rows graph) rules ≡ all) × (length rules ≡ length all)
    by None e = absurd (let none : None ≡ Some all = sym (ap (option_map (λ level. map (entry rows graph level) rules)) e) ∙ is in cc)
    by (Some level) e =
        let some : Some (map (entry rows graph level) rules) ≡ Some all = sym (ap (option_map (λ level. map (entry rows graph level) rules)) e) ∙ is in
        let listed : map (entry rows graph level) rules ≡ all = cc in
        (ap (λ o. map (entry rows graph (unwrap_or o (length graph.levels))) rules) e ∙ listed, length-mapped (entry rows graph level) rules ∙ ap length listed)

pub where-passing : (b : Bool) (o : Option (List CostKey)) (all : List CostKey) → cond b o None ≡ Some all → o ≡ Some all
where-passing true o all is = is
where-passing false o all is = absurd (cc)

-- the window that is asked for, cut at some number at least as great as its end
same-window : (i : Index) (call : SearchView) (n : ℕ) (ids : List ℕ) (offset start end most : ℕ) → start ≡ min offset most → end ≤ most
    → opened_classes before (index.entry_at i call) n ids start (start + (end - start)) ≡ opened_classes before (index.entry_at i call) n ids offset end
same-window i call n ids offset start end most at le = by (near-or-far start end)
  where
    near-or-far : (a b : ℕ) → (a < b) ⊎ (b ≤ a)
    near-or-far a b = grind arith

    by : (start < end) ⊎ (end ≤ start) → opened_classes before (index.entry_at i call) n ids start (start + (end - start)) ≡ opened_classes before (index.entry_at i call) n ids offset end
    by (inl near) =
        ap₂ (opened_classes before (index.entry_at i call) n ids) (let e : start ≡ offset = omega arith in e) (let e : start + (end - start) ≡ end = omega arith in e)
    by (inr far) =
        none-opened before (index.entry_at i call) (index.entry_at i call) n ids start (start + (end - start)) (le-ltb start (start + (end - start)) (omega arith))
        ∙ sym (none-opened before (index.entry_at i call) (index.entry_at i call) n ids offset end (le-ltb offset end (omega arith)))

module _ (i : Index) (call : SearchView) (passes : RowsView → Bool) (graph : GraphView) (rules : List Rule) (is : IsAsked i call passes graph rules) where
  abbrev documents : List IndexedDocument
  documents = documents_of i.store.paths (uses_in i) i.store.rows

  abbrev key : ℕ → ℕ → CostKey
  key level d = entry_at (rows_at documents d) graph rules level

  -- a document that matches has the same entries by the graph and by the index
  same-entries : (m : Matching) → Matches i call m → HasSame before key (index.entry_at i call) (length rules) 0 m.row.id
  same-entries m h =
      let rows = rows_in i m.row.document in
      let here : rows_at documents m.row.id ≡ rows = ap rows_of (document-there i.store.paths (uses_in i) m.row.id i.store.rows m.row h.there) in
      let all : tuple rows graph rules ≡ Some m.costs = where-passing (passes rows) (tuple rows graph rules) m.costs (costs-same i call passes graph rules is m.row.document ∙ h.costs) in
      let entries = tuple-entries rows graph rules m.costs all in
      let known : costs_at i call m.row.id ≡ Some m.costs = ap (option_and_then (λ (r : Row). costs_in i call r.document)) h.there ∙ h.costs in
      entries-listed (rows_at documents) graph rules m.row.id ∙ ap (λ v. map (entry_of v graph) rules) here ∙ entries.0 ∙ sym (entries-are i call m.row.id m.costs (length rules) known entries.1)

  same-all : (ms : List Matching) → AllByRecursion (Matches i call) ms → AllByRecursion (HasSame before key (index.entry_at i call) (length rules) 0) (map (λ m. m.row.id) ms)
  same-all [] h = tt
  same-all (m ∷ ms) h = (same-entries m h.0, same-all ms h.1)

  universe-is : IsSound i.store → ids_of (lists.matches_among (rows_at documents) graph rules (passing passes documents)) ≡ map (λ m. m.row.id) (matching i call)
  universe-is sound =
      ap ids_of (matches_over passes graph rules documents (passing passes documents) (in-order i.store.paths (uses_in i) 0 i.store.rows i.store.next_id sound.increase) refl
      ∙ matches-same i call passes graph rules is i.store.rows) ∙ ids-matched (matching i call)

  -- the buckets of some window are opened over the documents of the index
  traced : (start end : ℕ) → IsSound i.store
      → trace before key (length rules) (ids_of (lists.matches_among (rows_at documents) graph rules (passing passes documents))) start end
      ≡ trace before (index.entry_at i call) (length (rules_in i call)) (map (λ m. m.row.id) (matching i call)) start end
  traced start end sound =
      ap (λ ids. trace before key (length rules) ids start end) (universe-is sound)
      ∙ ap (map opening_of)
      (opened-same before key (index.entry_at i call) (length rules) (map (λ m. m.row.id) (matching i call)) start end (same-all (matching i call) (matching-match i call i.store.rows (rows-there i.store sound)))
      ∙ ap (λ n. opened_classes before (index.entry_at i call) n (map (λ m. m.row.id) (matching i call)) start end) (ap length is.ruled))

module _ (i : Index) (call : SearchView) (search : Search) (sound : IsSound i.store) (is : IsSearchOf search i call) where
  abbrev traced_in : ℕ → ℕ → List Opening
  traced_in start end = trace before (index.entry_at i call) (length (rules_in i call)) (map (λ m. m.row.id) (matching i call)) start end

  abbrev passes : RowsView → Bool
  passes = passes_in (documents_in i.store (uses_in i)) search

  traces : (start end : ℕ) → trace before (λ level d. entry_at (rows_at (documents_of i.store.paths (uses_in i) i.store.rows) d) search.query.now search.rules.now level) (length search.rules.now)
      (ids_of (lists.matches_among (rows_at (documents_of i.store.paths (uses_in i) i.store.rows)) search.query.now search.rules.now (passing passes (documents_of i.store.paths (uses_in i) i.store.rows)))) start end
      ≡ traced_in start end
  traces start end = traced i call passes search.query.now search.rules.now (is-asked i call search sound is) start end sound

  -- what is opened is what the index says
  pub opened-are : (o : Option (List ℕ)) → opened_found o i.store.rows (documents_in i.store (uses_in i)) search
      ≡ traced_in (looked_under o i call).start (looked_under o i call).end
  opened-are None =
      traces search.window.offset (search.window.offset + search.window.limit) ∙ ap (λ n. traced_in search.window.offset (search.window.offset + n)) is.limit
      ∙ ap (map opening_of) (same-window i call (length (rules_in i call)) (map (λ m. m.row.id) (matching i call)) (offset_of call.window) search.window.offset (window_end (most_hits i) call) (2 ^ 64 - 1) is.start is.within)
  opened-are (Some attribute) =
      let r = reach_in (documents_in i.store (uses_in i)) search (stored_values attribute i.store.rows) in
      traces 0 (0 + r) ∙ ap (λ n. traced_in 0 n) (let e : 0 + r ≡ r = omega arith in e) ∙ ap (λ n. traced_in 0 n) (reach-are i call search sound is attribute)

-- ---- a search that its settings may refuse

pub opens-fine : (i : Index) (call : SearchView) (b : Bool) (old new : LogState) → search_fault i.settings call ≡ None → Opens false (opened_in i call) old new → Opens b (index.opened i call) old new
opens-fine i call b old new fine h =
    opens-either b (index.opened i call) old new (subst (λ all. Opens false all old new) (sym (ap (λ o. unless_refused o (opened_in i call) []) fine)) h)
