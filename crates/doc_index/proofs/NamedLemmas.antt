-- The stored documents that some external ids name.
use Rattle.std.proofs.Common.{◌≡◌, ℕ, suc, ◌+◌, ◌<◌, ◌≤◌, ◌==◌, Bool, true, false, ◌||◌, cond, List, [], ◌∷◌, ◌++◌, map, length, take, get_or, Option, Some, None, refl, sym, ap, ap₂, ◌∙◌, arith, eq-eqb, ne_eqb}
use Rattle.std.specs.Prelude.{bytes_eq, nat_lt}
use Rattle.std.specs.Option.{option_map}
use Rattle.serde_json.specs.Data.{Data}
use Rattle.std.specs.List.{filter, list_any}
use Rattle.std.proofs.Math.Bool.{or-true, or-false}
use Rattle.std.proofs.lemmas.Bool.{cond-true, cond-false}
use Rattle.std.proofs.lemmas.Bool.Decides.{nat_tests}
use Rattle.std.proofs.lemmas.List.{take_more, map-append, append_assoc}
use Rattle.std.proofs.lemmas.List.Elements.{filter_agree}
use Rattle.std.proofs.lemmas.List.Folds.{list_any-append}
use Rattle.doc_sets.specs.Sets.{with_id, AreAbove}
use Rattle.doc_store.specs.Store.{Row, id_of, row_at}
use Rattle.doc_store.specs.Sound.{Increase}
use Rattle.doc_store.specs.Sound as sound
use Rattle.doc_store.proofs.LawLemmas.{id_of-low}
use Rattle.path_registry.proofs.NameLemmas.{same_bytes, bytes_eq-turned}
use Rattle.doc_index.specs.Named.{is_named, named, stored_of, row_of}
use Rattle.doc_index.specs.declared.named.Stored.{Stored}
use Rattle.doc_index.proofs.SameLemmas.{some-same}
use Rattle.doc_index.proofs.RowLemmas.{with_row, id-found}

abbrev pub ids_in : List Row → List ℕ
ids_in rows = map (λ r. r.id) rows

above-filtered : (p : Row → Bool) (d low : ℕ) (rows : List Row) (high : ℕ) → Increase low rows high → d < low → AreAbove d (ids_in (filter p rows))
above-filtered p d low [] high h lt = tt
above-filtered p d low (r ∷ rows) high h lt = by (p r) (above-filtered p d (suc r.id) rows high h.1 (omega (arith, h.0)))
  where
    by : (b : Bool) → AreAbove d (ids_in (filter p rows)) → AreAbove d (ids_in (cond b (r ∷ filter p rows) (filter p rows)))
    by true rest = (omega (arith, h.0), rest)
    by false rest = rest

with-first : (d : ℕ) (xs : List ℕ) → AreAbove d xs → with_id d xs ≡ d ∷ xs
with-first d [] h = refl
with-first d (x ∷ xs) h = cond-true (nat_lt d x) _ _ (let lt : d < x = h.0 in grind (arith, nat_tests))

with-again : (d : ℕ) (xs : List ℕ) → with_id d (d ∷ xs) ≡ d ∷ xs
with-again d xs =
    let not_less : nat_lt d d ≡ false = grind (arith, nat_tests) in
    cond-false (nat_lt d d) _ _ not_less ∙ cond-true (d == d) _ _ (eq-eqb d d refl)

with-behind : (d x : ℕ) (xs : List ℕ) → x < d → with_id d (x ∷ xs) ≡ x ∷ with_id d xs
with-behind d x xs lt =
    let not_less : nat_lt d x ≡ false = grind (arith, nat_tests) in
    cond-false (nat_lt d x) _ _ not_less ∙ cond-false (d == x) _ _ (ne_eqb d x (λ e. absurd (omega arith)))

-- the rows that pass one more test
abbrev or_named : (Row → Bool) → List ℕ → Row → Bool
or_named p external r = p r || bytes_eq r.external external

filter-same : (p : Row → Bool) (external : List ℕ) (rows : List Row) → id_of external rows ≡ None → filter (or_named p external) rows ≡ filter p rows
filter-same p external [] none = refl
filter-same p external (r ∷ rows) none = by (bytes_eq external r.external) refl (filter-same p external rows)
  where
    some-none : cond true (Some r.id) (id_of external rows) ≡ None → ⊥
    some-none h = absurd (cc)

    by : (b : Bool) → bytes_eq external r.external ≡ b → (id_of external rows ≡ None → filter (or_named p external) rows ≡ filter p rows) → filter (or_named p external) (r ∷ rows) ≡ filter p (r ∷ rows)
    by true e again = absurd (some-none (ap (λ b. cond b (Some r.id) (id_of external rows)) (sym e) ∙ none))
    by false e again =
        let test : or_named p external r ≡ p r = ap (λ b. p r || b) (bytes_eq-turned r.external external ∙ e) ∙ or-false (p r) in
        ap₂ (λ b xs. cond b (r ∷ xs) xs) test (again (sym (cond-false _ _ _ e) ∙ none))

pub id-added : (p : Row → Bool) (external : List ℕ) (id low : ℕ) (rows : List Row) (high : ℕ) → Increase low rows high → sound.AreApart rows → id_of external rows ≡ Some id
    → with_id id (ids_in (filter p rows)) ≡ ids_in (filter (or_named p external) rows)
id-added p external id low [] high h apart found = absurd (cc)
id-added p external id low (r ∷ rows) high h apart found = by (bytes_eq external r.external) refl (p r) refl (id-added p external id (suc r.id) rows high h.1 apart.1)
  where
    by : (b : Bool) → bytes_eq external r.external ≡ b → (c : Bool) → p r ≡ c → (id_of external rows ≡ Some id → with_id id (ids_in (filter p rows)) ≡ ids_in (filter (or_named p external) rows)) → with_id id (ids_in (filter p (r ∷ rows))) ≡ ids_in (filter (or_named p external) (r ∷ rows))
    by true e c is again =
        let same : r.id ≡ id = some-same r.id id (sym (cond-true _ _ _ e) ∙ found) in
        let one : external ≡ r.external = same_bytes external r.external e in
        let rest : filter (or_named p external) rows ≡ filter p rows = filter-same p external rows (ap (λ x. id_of x rows) one ∙ apart.0) in
        let test : or_named p external r ≡ true = ap (λ b. p r || b) (bytes_eq-turned r.external external ∙ e) ∙ or-true (p r) in
        ap (λ n. with_id n (ids_in (cond (p r) (r ∷ filter p rows) (filter p rows)))) (sym same) ∙ put c is
        ∙ sym (ap₂ (λ b xs. ids_in (cond b (r ∷ xs) xs)) test rest)
      where
        put : (c : Bool) → p r ≡ c → with_id r.id (ids_in (cond (p r) (r ∷ filter p rows) (filter p rows))) ≡ r.id ∷ ids_in (filter p rows)
        put true is = ap (λ b. with_id r.id (ids_in (cond b (r ∷ filter p rows) (filter p rows)))) is ∙ with-again r.id (ids_in (filter p rows))
        put false is = ap (λ b. with_id r.id (ids_in (cond b (r ∷ filter p rows) (filter p rows)))) is ∙ with-first r.id (ids_in (filter p rows)) (above-filtered p r.id (suc r.id) rows high h.1 (omega arith))
    by false e c is again =
        let later : id_of external rows ≡ Some id = sym (cond-false _ _ _ e) ∙ found in
        let above : suc r.id ≤ id = id_of-low external (suc r.id) rows high id h.1 later in
        let test : or_named p external r ≡ p r = ap (λ b. p r || b) (bytes_eq-turned r.external external ∙ e) ∙ or-false (p r) in
        put c is above (again later) ∙ sym (ap (λ b. ids_in (cond b (r ∷ filter (or_named p external) rows) (filter (or_named p external) rows))) test)
      where
        put : (c : Bool) → p r ≡ c → suc r.id ≤ id → with_id id (ids_in (filter p rows)) ≡ ids_in (filter (or_named p external) rows)
            → with_id id (ids_in (cond (p r) (r ∷ filter p rows) (filter p rows))) ≡ ids_in (cond (p r) (r ∷ filter (or_named p external) rows) (filter (or_named p external) rows))
        put true is above rest =
            ap (λ b. with_id id (ids_in (cond b (r ∷ filter p rows) (filter p rows)))) is ∙ with-behind id r.id (ids_in (filter p rows)) (omega arith) ∙ ap (λ xs. r.id ∷ xs) rest
            ∙ sym (ap (λ b. ids_in (cond b (r ∷ filter (or_named p external) rows) (filter (or_named p external) rows))) is)
        put false is above rest =
            ap (λ b. with_id id (ids_in (cond b (r ∷ filter p rows) (filter p rows)))) is ∙ rest
            ∙ sym (ap (λ b. ids_in (cond b (r ∷ filter (or_named p external) rows) (filter (or_named p external) rows))) is)

-- one external id more
named-more : (externals : List (List ℕ)) (i : ℕ) (external : List ℕ) (r : Row) → i < length externals → external ≡ get_or externals i external
    → is_named (take (i + 1) externals) r ≡ or_named (is_named (take i externals)) external r
named-more externals i external r within is =
    ap (λ xs. list_any (bytes_eq r.external) xs) (take_more externals i external within ∙ ap (λ x. take i externals ++ x ∷ []) (sym is))
    ∙ list_any-append (bytes_eq r.external) (take i externals) (external ∷ []) ∙ ap (λ b. is_named (take i externals) r || b) (or-false (bytes_eq r.external external))

pub named-step : (externals : List (List ℕ)) (i : ℕ) (external : List ℕ) (id low : ℕ) (rows : List Row) (high : ℕ) → Increase low rows high → sound.AreApart rows
    → i < length externals → external ≡ get_or externals i external → id_of external rows ≡ Some id
    → with_id id (ids_in (named (take i externals) rows)) ≡ ids_in (named (take (i + 1) externals) rows)
named-step externals i external id low rows high h apart within is found =
    id-added (is_named (take i externals)) external id low rows high h apart found
    ∙ ap ids_in (filter_agree _ _ (λ r. sym (named-more externals i external r within is)) rows)

pub named-none : (externals : List (List ℕ)) (i : ℕ) (external : List ℕ) (rows : List Row) → i < length externals → external ≡ get_or externals i external → id_of external rows ≡ None
    → ids_in (named (take i externals) rows) ≡ ids_in (named (take (i + 1) externals) rows)
named-none externals i external rows within is none =
    ap ids_in (sym (filter-same (is_named (take i externals)) external rows none) ∙ filter_agree _ _ (λ r. sym (named-more externals i external r within is)) rows)

-- ---- the rows of ids
abbrev pub rows_at : List ℕ → List Row → List Row
rows_at [] rows = []
rows_at (id ∷ ids) rows = with_row (row_at id rows) (rows_at ids rows)

pub none-named : (rows : List Row) → [] ≡ ids_in (named [] rows)
none-named [] = refl
none-named (r ∷ rows) = none-named rows

rows-skip : (p : Row → Bool) (r : Row) (low : ℕ) (rows more : List Row) (high : ℕ) → Increase low rows high → r.id < low
    → rows_at (ids_in (filter p rows)) (r ∷ more) ≡ rows_at (ids_in (filter p rows)) more
rows-skip p r low [] more high h lt = refl
rows-skip p r low (x ∷ rows) more high h lt = by (p x) (rows-skip p r (suc x.id) rows more high h.1 (omega (arith, h.0)))
  where
    by : (b : Bool) → rows_at (ids_in (filter p rows)) (r ∷ more) ≡ rows_at (ids_in (filter p rows)) more
        → rows_at (ids_in (cond b (x ∷ filter p rows) (filter p rows))) (r ∷ more) ≡ rows_at (ids_in (cond b (x ∷ filter p rows) (filter p rows))) more
    by true rest = ap₂ with_row (cond-false (x.id == r.id) _ _ (ne_eqb x.id r.id (λ e. absurd (omega (arith, h.0))))) rest
    by false rest = rest

-- the rows of the ids of rows are those rows
pub named-rows : (p : Row → Bool) (low : ℕ) (rows : List Row) (high : ℕ) → Increase low rows high → rows_at (ids_in (filter p rows)) rows ≡ filter p rows
named-rows p low [] high h = refl
named-rows p low (r ∷ rows) high h = by (p r) (rows-skip p r (suc r.id) rows rows high h.1 (omega arith) ∙ named-rows p (suc r.id) rows high h.1)
  where
    by : (b : Bool) → rows_at (ids_in (filter p rows)) (r ∷ rows) ≡ filter p rows
        → rows_at (ids_in (cond b (r ∷ filter p rows) (filter p rows))) (r ∷ rows) ≡ cond b (r ∷ filter p rows) (filter p rows)
    by true rest = ap₂ with_row (cond-true (r.id == r.id) _ _ (eq-eqb r.id r.id refl)) rest
    by false rest = rest

-- one row more is read
pub read-step : (found : List Stored) (x : Stored) (rest : List ℕ) (rows : List Row) (all : List (ℕ × Data))
    → Some x.text ≡ option_map (λ r. r.document) (row_at x.id.0 rows)
    → map stored_of found ++ map row_of (rows_at (x.id.0 ∷ rest) rows) ≡ all
    → map stored_of (found ++ x ∷ []) ++ map row_of (rows_at rest rows) ≡ all
read-step found x rest rows all is told =
    ap (λ xs. xs ++ map row_of (rows_at rest rows)) (map-append stored_of found (x ∷ []))
    ∙ append_assoc (map stored_of found) (stored_of x ∷ []) (map row_of (rows_at rest rows))
    ∙ ap (λ xs. map stored_of found ++ xs) (by (row_at x.id.0 rows) refl is) ∙ told
  where
    by : (o : Option Row) → row_at x.id.0 rows ≡ o → Some x.text ≡ option_map (λ r. r.document) o
        → stored_of x ∷ map row_of (rows_at rest rows) ≡ map row_of (with_row (row_at x.id.0 rows) (rows_at rest rows))
    by None found h = absurd (cc)
    by (Some r) found h =
        ap₂ (λ n d. (n, d) ∷ map row_of (rows_at rest rows)) (sym (id-found x.id.0 rows r found)) (some-same x.text r.document h)
        ∙ ap (λ o. map row_of (with_row o (rows_at rest rows))) (sym found)
