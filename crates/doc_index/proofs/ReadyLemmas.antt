-- Where a change of documents leads.
use Rattle.std.proofs.Common.{◌≡◌, ℕ, not, Bool, true, false, cond, List, [], map, Option, Some, None, refl, sym, ap, ◌∙◌, subst}
use Rattle.std.specs.Option.{option_map, is_some}
use Rattle.std.specs.List.{filter, AllByRecursion}
use Rattle.std.proofs.lemmas.Bool.{cond-true, cond-false}
use Rattle.std.proofs.lemmas.Simd.{map-map}
use Rattle.serde_json.specs.Data.{Data}
use Rattle.search_base.proofs.Members.{Among, Among-map, Among-mapped, Among-filter}
use Rattle.doc_rows.specs.declared.path_use.PathUse.{PathUse}
use Rattle.doc_store.specs.declared.rows.StoreRow.{StoreRow}
use Rattle.doc_store.specs.Store.{Row, Store, all_stored, ids_given, externals, row_at}
use Rattle.doc_store.specs.Sound.{IsSound, Increase}
use Rattle.doc_store.proofs.SoundLemmas.{IsWhole, whole-all_stored}
use Rattle.row_index.specs.Documents.{IndexedDocument, has_id, IsBatch, document_at, without, after}
use Rattle.row_index.specs.Standing.{RowIndexView, StandsFor}
use Rattle.row_index.specs.Changes.{PreparedView, IsPreparedOf, HasRooms}
use Rattle.doc_index.specs.Documents.{indexed, document_of}
use Rattle.doc_index.specs.Last.{last_of}
use Rattle.doc_index.specs.Named.{is_named, named, stored_of, row_of, AreRead}
use Rattle.doc_index.specs.Ready.{AreTheSame, IsReady}
use Rattle.doc_index.specs.declared.named.Stored.{Stored}
use Rattle.doc_index.proofs.SameLemmas.{all-from, at-among}
use Rattle.doc_index.proofs.StoreLemmas.{or_else, some-map, last_row, row_or, at-all_stored, passes, picked, at-documents, has-filtered, at-filtered, apart-filtered, apart-documents, has-at, at-append, at-without, at-last, apart-last, named-given}

pub whole-of : (s : Store) → IsSound s → IsWhole s
whole-of s h = record { increase = h.increase; apart = h.apart; once = h.once; cover = h.cover }

module _ (paths : List (List ℕ)) (uses : List PathUse) where
  abbrev shown : Row → IndexedDocument
  shown = document_of paths uses

  -- documents that pass a test go whole
  goes-whole : (p : Row → Bool) (low : ℕ) (rows : List Row) (high : ℕ) → Increase low rows high
      → AllByRecursion (λ (d : IndexedDocument). document_at d.id (map shown rows) ≡ Some d) (map shown (filter p rows))
  goes-whole p low rows high h = all-from _ (map shown (filter p rows)) (λ d among.
      let found = Among-map shown (filter p rows) d among in
      at-among (map shown rows) d (apart-documents paths uses low rows high h) (subst (Among (map shown rows)) found.2 (Among-mapped shown rows found.0 (Among-filter p rows found.0 found.1).0)))

  -- ---- documents come
  module _ (rs : List StoreRow) (s : Store) (whole : IsWhole s) where
    abbrev gone : List IndexedDocument
    gone = map shown (named (externals rs) s.rows)

    abbrev come : List IndexedDocument
    come = last_of paths uses (ids_given rs s) rs

    abbrev before : List IndexedDocument
    before = map shown s.rows

    goes-named : (id : ℕ) → has_id id gone ≡ passes (is_named (externals rs)) (row_at id s.rows)
    goes-named id = has-filtered paths uses (is_named (externals rs)) id 0 s.rows s.next_id whole.increase

    stays-or-comes : (id : ℕ) (r : Option Row) → r ≡ row_at id s.rows → is_some (last_row id (ids_given rs s) rs) ≡ false
        → cond (passes (is_named (externals rs)) r) None (option_map shown r) ≡ option_map shown r
    stays-or-comes id None is none = refl
    stays-or-comes id (Some r) is none = cond-false _ _ _ (named-given r.external id rs s r whole (sym is) refl ∙ none)

    leads : (id : ℕ) (l : Option StoreRow) → l ≡ last_row id (ids_given rs s) rs
        → or_else (option_map (λ r. document_of paths uses (record { id = id; external = r.external; document = r.document })) l)
        (cond (passes (is_named (externals rs)) (row_at id s.rows)) None (option_map shown (row_at id s.rows)))
        ≡ option_map shown (row_or id l (row_at id s.rows))
    leads id (Some l) is = refl
    leads id None is = stays-or-comes id (row_at id s.rows) refl (ap is_some (sym is))

    pub put-leads : AreTheSame (after gone come before) (map shown (all_stored rs s).rows)
    put-leads id =
        at-append id come (without gone before)
        ∙ ap (λ o. or_else o (document_at id (without gone before))) (at-last paths uses id (ids_given rs s) rs)
        ∙ ap (or_else (option_map (λ r. document_of paths uses (record { id = id; external = r.external; document = r.document })) (last_row id (ids_given rs s) rs)))
        (at-without id gone before ∙ ap (λ b. cond b None (document_at id before)) (goes-named id)
        ∙ ap (cond (passes (is_named (externals rs)) (row_at id s.rows)) None) (at-documents paths uses id s.rows))
        ∙ leads id (last_row id (ids_given rs s) rs) refl
        ∙ ap (option_map shown) (sym (at-all_stored id rs s whole))
        ∙ sym (at-documents paths uses id (all_stored rs s).rows)

    free-of : (id : ℕ) (r : Option Row) → r ≡ row_at id s.rows → is_some (last_row id (ids_given rs s) rs) ≡ true
        → is_some (cond (passes (is_named (externals rs)) r) None (option_map shown r)) ≡ false
    free-of id None is there = refl
    free-of id (Some r) is there = ap is_some (cond-true _ _ _ (named-given r.external id rs s r whole (sym is) refl ∙ there))

    pub put-batch : IsBatch gone come before
    put-batch = record {
      whole = goes-whole (is_named (externals rs)) 0 s.rows s.next_id whole.increase;
      once = apart-last paths uses (ids_given rs s) rs;
      free = all-from _ come (λ d among.
          has-at d.id (without gone before)
          ∙ ap is_some (at-without d.id gone before ∙ ap (λ b. cond b None (document_at d.id before)) (goes-named d.id)
          ∙ ap (cond (passes (is_named (externals rs)) (row_at d.id s.rows)) None) (at-documents paths uses d.id s.rows))
          ∙ free-of d.id (row_at d.id s.rows) refl
          (sym (some-map (λ r. document_of paths uses (record { id = d.id; external = r.external; document = r.document })) (last_row d.id (ids_given rs s) rs))
          ∙ ap is_some (sym (at-last paths uses d.id (ids_given rs s) rs) ∙ at-among come d (apart-last paths uses (ids_given rs s) rs) among)));
    }

    pub put-ready : (prepared : PreparedView) (index : RowIndexView) → IsPreparedOf index prepared gone come → HasRooms index prepared → StandsFor index before
        → IsReady prepared index (map shown (all_stored rs s).rows)
    put-ready prepared index is room stood = record {
      gone = gone;
      come = come;
      before = before;
      is = is;
      batch = put-batch;
      stood = stood;
      room = room;
      leads = put-leads;
      apart = apart-documents paths uses 0 (all_stored rs s).rows (all_stored rs s).next_id (whole-all_stored rs s whole).increase;
    }

  -- ---- documents go
  module _ (names : List (List ℕ)) (s : Store) (whole : IsWhole s) where
    abbrev left : Row → Bool
    left r = not (is_named names r)

    stays : (r : Option Row) → cond (passes (is_named names) r) None (option_map shown r) ≡ option_map shown (picked left r)
    stays None = refl
    stays (Some r) = by (is_named names r)
      where
        by : (b : Bool) → cond b None (Some (shown r)) ≡ option_map shown (cond (not b) (Some r) None)
        by true = refl
        by false = refl

    pub remove-ready : (prepared : PreparedView) (index : RowIndexView) → IsPreparedOf index prepared (map shown (named names s.rows)) [] → HasRooms index prepared → StandsFor index (map shown s.rows)
        → IsReady prepared index (map shown (filter left s.rows))
    remove-ready prepared index is room stood = record {
      gone = map shown (named names s.rows);
      come = [];
      before = map shown s.rows;
      is = is;
      batch = record { whole = goes-whole (is_named names) 0 s.rows s.next_id whole.increase; once = tt; free = tt };
      stood = stood;
      room = room;
      leads = λ id.
          at-without id (map shown (named names s.rows)) (map shown s.rows)
          ∙ ap (λ b. cond b None (document_at id (map shown s.rows))) (has-filtered paths uses (is_named names) id 0 s.rows s.next_id whole.increase)
          ∙ ap (cond (passes (is_named names) (row_at id s.rows)) None) (at-documents paths uses id s.rows)
          ∙ stays (row_at id s.rows)
          ∙ ap (option_map shown) (sym (at-filtered paths uses left id 0 s.rows s.next_id whole.increase))
          ∙ sym (at-documents paths uses id (filter left s.rows));
      apart = apart-filtered paths uses left 0 s.rows s.next_id whole.increase;
    }

  -- documents that were read
  pub read-are : (found : List Stored) (rows : List Row) → AreRead found rows → map (λ f. indexed paths uses f.id.0 f.text) found ≡ map shown rows
  read-are found rows read =
      sym (map-map (λ (p : ℕ × Data). indexed paths uses p.0 p.1) stored_of found)
      ∙ ap (map (λ (p : ℕ × Data). indexed paths uses p.0 p.1)) read
      ∙ map-map (λ (p : ℕ × Data). indexed paths uses p.0 p.1) row_of rows
