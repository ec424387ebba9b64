-- The documents of a store under their internal ids, before and after others come or some go.
use Rattle.std.proofs.Common.{◌≡◌, ℕ, suc, ◌<◌, ◌≤◌, ◌==◌, not, Bool, true, false, ◌&&◌, ◌||◌, cond, List, [], ◌∷◌, ◌++◌, map, Option, Some, None, refl, sym, ap, ◌∙◌, subst, arith, ne_eqb, eqb-true}
use Rattle.std.specs.Prelude.{bytes_eq}
use Rattle.std.specs.Option.{option_map, unwrap_or, is_some}
use Rattle.std.specs.List.{filter, list_any}
use Rattle.std.proofs.lemmas.Bool.{cond-true, cond-false, true≢false}
use Rattle.doc_rows.specs.declared.path_use.PathUse.{PathUse}
use Rattle.doc_store.specs.declared.rows.StoreRow.{StoreRow}
use Rattle.doc_store.specs.Store.{Row, Store, row, put, stored, all_stored, id_of, id_given, ids_given, externals, row_at}
use Rattle.doc_store.specs.Sound.{Increase}
use Rattle.doc_store.specs.Sound as sound
use Rattle.doc_store.proofs.LawLemmas.{given-low}
use Rattle.path_registry.proofs.NameLemmas.{same_bytes, bytes_same, bytes_eq-turned}
use Rattle.doc_store.proofs.SoundLemmas.{IsWhole, whole-stored}
use Rattle.row_index.specs.Documents.{IndexedDocument, has_id, AreApart, document_at, without}
use Rattle.doc_index.specs.Documents.{indexed, document_of}
use Rattle.doc_index.specs.Last.{last_of}
use Rattle.doc_index.proofs.SameLemmas.{some-same}

abbrev pub or_else : {X : Type 0} → Option X → Option X → Option X
or_else (Some x) o = Some x
or_else None o = o

-- ---- the row of an id after a document comes
swap : {X : Type 0} (a b : Bool) (x y z : X) → (a ≡ true → b ≡ false) → cond a x (cond b y z) ≡ cond b y (cond a x z)
swap true true x y z apart = absurd (true≢false (apart refl))
swap true false x y z apart = refl
swap false b x y z apart = refl

same_row : (new : StoreRow) (id n : ℕ) (o : Option Row) → cond (id == n) (Some (row n new)) o ≡ cond (id == n) (Some (row id new)) o
same_row new id n o = by (id == n) refl
  where
    by : (b : Bool) → (id == n) ≡ b → cond (id == n) (Some (row n new)) o ≡ cond (id == n) (Some (row id new)) o
    by true e = ap (λ m. cond (id == n) (Some (row m new)) o) (sym (eqb-true id n e))
    by false e = cond-false _ _ _ e ∙ sym (cond-false _ _ _ e)

twice : {X : Type 0} (b : Bool) (x y z : X) → cond b x z ≡ cond b x (cond b y z)
twice true x y z = refl
twice false x y z = refl

at-put : (new : StoreRow) (low next id : ℕ) (rows : List Row) → Increase low rows next
    → row_at id (put new next rows) ≡ cond (id == unwrap_or (id_of new.external rows) next) (Some (row id new)) (row_at id rows)
at-put new low next id [] h = same_row new id next None
at-put new low next id (r ∷ rows) h = by (bytes_eq new.external r.external) refl (at-put new (suc r.id) next id rows h.1)
  where
    by : (b : Bool) → bytes_eq new.external r.external ≡ b
        → row_at id (put new next rows) ≡ cond (id == unwrap_or (id_of new.external rows) next) (Some (row id new)) (row_at id rows)
        → row_at id (put new next (r ∷ rows)) ≡ cond (id == unwrap_or (id_of new.external (r ∷ rows)) next) (Some (row id new)) (row_at id (r ∷ rows))
    by true e rest = subst (λ b. row_at id (cond b (row r.id new ∷ rows) (r ∷ put new next rows))
        ≡ cond (id == unwrap_or (cond b (Some r.id) (id_of new.external rows)) next) (Some (row id new)) (row_at id (r ∷ rows))) (sym e)
        (same_row new id r.id (row_at id rows) ∙ twice (id == r.id) (Some (row id new)) (Some r) (row_at id rows))
    by false e rest =
        let given = unwrap_or (id_of new.external rows) next in
        let above : suc r.id ≤ given = given-low new.external (suc r.id) rows next h.1 in
        subst (λ b. row_at id (cond b (row r.id new ∷ rows) (r ∷ put new next rows))
        ≡ cond (id == unwrap_or (cond b (Some r.id) (id_of new.external rows)) next) (Some (row id new)) (row_at id (r ∷ rows))) (sym e)
        (ap (cond (id == r.id) (Some r)) rest
        ∙ swap (id == r.id) (id == given) (Some r) (Some (row id new)) (row_at id rows)
        (λ is. ne_eqb id given (λ same. let here : id ≡ r.id = eqb-true id r.id is in absurd (omega (arith, above)))))

-- ---- the last document that comes under an id
abbrev pub last_row : ℕ → List ℕ → List StoreRow → Option StoreRow
last_row id [] documents = None
last_row id (given ∷ ids) [] = None
last_row id (given ∷ ids) (r ∷ documents) = or_else (last_row id ids documents) (cond (id == given) (Some r) None)

abbrev pub row_or : ℕ → Option StoreRow → Option Row → Option Row
row_or id (Some r) o = Some (row id r)
row_or id None o = o

row_or-else : (id : ℕ) (b : Bool) (later : Option StoreRow) (r : StoreRow) (o : Option Row)
    → row_or id later (cond b (Some (row id r)) o) ≡ row_or id (or_else later (cond b (Some r) None)) o
row_or-else id b (Some l) r o = refl
row_or-else id true None r o = refl
row_or-else id false None r o = refl

pub at-all_stored : (id : ℕ) (rs : List StoreRow) (s : Store) → IsWhole s → row_at id (all_stored rs s).rows ≡ row_or id (last_row id (ids_given rs s) rs) (row_at id s.rows)
at-all_stored id [] s whole = refl
at-all_stored id (r ∷ rs) s whole =
    at-all_stored id rs (stored r s) (whole-stored r s whole)
    ∙ ap (row_or id (last_row id (ids_given rs (stored r s)) rs)) (at-put r 0 s.next_id id s.rows whole.increase)
    ∙ row_or-else id (id == id_given r s) (last_row id (ids_given rs (stored r s)) rs) r (row_at id s.rows)

-- ---- rows whose ids increase
eq-turned : (m n : ℕ) → (m == n) ≡ (n == m)
eq-turned m n = grind arith

pub row-none : (id low : ℕ) (rows : List Row) (high : ℕ) → Increase low rows high → id < low → row_at id rows ≡ None
row-none id low [] high h below = refl
row-none id low (r ∷ rows) high h below = cond-false _ _ _ (ne_eqb id r.id (λ e. absurd (omega (arith, h.0)))) ∙ row-none id (suc r.id) rows high h.1 (omega (arith, h.0))

abbrev pub passes : (Row → Bool) → Option Row → Bool
passes p None = false
passes p (Some r) = p r

abbrev pub picked : (Row → Bool) → Option Row → Option Row
picked p None = None
picked p (Some r) = cond (p r) (Some r) None

is-picked : (p : Row → Bool) (o : Option Row) → is_some (picked p o) ≡ passes p o
is-picked p None = refl
is-picked p (Some r) = by (p r)
  where
    by : (b : Bool) → is_some (cond b (Some r) None) ≡ b
    by true = refl
    by false = refl

pub some-map : {X Y : Type 0} (f : X → Y) (o : Option X) → is_some (option_map f o) ≡ is_some o
some-map f None = refl
some-map f (Some x) = refl

pub has-at : (id : ℕ) (documents : List IndexedDocument) → has_id id documents ≡ is_some (document_at id documents)
has-at id [] = refl
has-at id (d ∷ ds) = by (d.id == id) (has-at id ds)
  where
    by : (b : Bool) → has_id id ds ≡ is_some (document_at id ds) → (b || has_id id ds) ≡ is_some (cond b (Some d) (document_at id ds))
    by true rest = refl
    by false rest = rest

module _ (paths : List (List ℕ)) (uses : List PathUse) where
  abbrev shown : Row → IndexedDocument
  shown = document_of paths uses

  pub at-documents : (id : ℕ) (rows : List Row) → document_at id (map shown rows) ≡ option_map shown (row_at id rows)
  at-documents id [] = refl
  at-documents id (r ∷ rows) = ap (λ b. cond b (Some (shown r)) (document_at id (map shown rows))) (eq-turned r.id id) ∙ by (id == r.id) (at-documents id rows)
    where
      by : (b : Bool) → document_at id (map shown rows) ≡ option_map shown (row_at id rows)
          → cond b (Some (shown r)) (document_at id (map shown rows)) ≡ option_map shown (cond b (Some r) (row_at id rows))
      by true rest = refl
      by false rest = rest

  pub at-filtered : (p : Row → Bool) (id low : ℕ) (rows : List Row) (high : ℕ) → Increase low rows high → row_at id (filter p rows) ≡ picked p (row_at id rows)
  at-filtered p id low [] high h = refl
  at-filtered p id low (r ∷ rows) high h = by (p r) refl (id == r.id) refl (at-filtered p id (suc r.id) rows high h.1)
    where
      by : (b : Bool) → p r ≡ b → (c : Bool) → (id == r.id) ≡ c → row_at id (filter p rows) ≡ picked p (row_at id rows)
          → row_at id (cond (p r) (r ∷ filter p rows) (filter p rows)) ≡ picked p (cond (id == r.id) (Some r) (row_at id rows))
      by true is true e rest = ap (λ x. row_at id (cond x (r ∷ filter p rows) (filter p rows))) is ∙ cond-true _ _ _ e ∙ sym (ap (picked p) (cond-true _ _ _ e) ∙ cond-true _ _ _ is)
      by true is false e rest = ap (λ x. row_at id (cond x (r ∷ filter p rows) (filter p rows))) is ∙ cond-false _ _ _ e ∙ rest ∙ sym (ap (picked p) (cond-false _ _ _ e))
      by false is true e rest =
          let none : row_at id rows ≡ None = row-none id (suc r.id) rows high h.1 (let same : id ≡ r.id = eqb-true id r.id e in omega arith) in
          ap (λ x. row_at id (cond x (r ∷ filter p rows) (filter p rows))) is ∙ rest ∙ ap (picked p) none ∙ sym (ap (picked p) (cond-true _ _ _ e) ∙ cond-false _ _ _ is)
      by false is false e rest = ap (λ x. row_at id (cond x (r ∷ filter p rows) (filter p rows))) is ∙ rest ∙ sym (ap (picked p) (cond-false _ _ _ e))

  -- an id is among those of rows that pass a test where its row passes
  pub has-filtered : (p : Row → Bool) (id low : ℕ) (rows : List Row) (high : ℕ) → Increase low rows high → has_id id (map shown (filter p rows)) ≡ passes p (row_at id rows)
  has-filtered p id low rows high h =
      has-at id (map shown (filter p rows)) ∙ ap is_some (at-documents id (filter p rows)) ∙ some-map shown (row_at id (filter p rows))
      ∙ ap is_some (at-filtered p id low rows high h) ∙ is-picked p (row_at id rows)

  pub apart-filtered : (p : Row → Bool) (low : ℕ) (rows : List Row) (high : ℕ) → Increase low rows high → AreApart (map shown (filter p rows))
  apart-filtered p low [] high h = tt
  apart-filtered p low (r ∷ rows) high h = by (p r) (apart-filtered p (suc r.id) rows high h.1)
    where
      by : (b : Bool) → AreApart (map shown (filter p rows)) → AreApart (map shown (cond b (r ∷ filter p rows) (filter p rows)))
      by true rest = (has-filtered p r.id (suc r.id) rows high h.1 ∙ ap (passes p) (row-none r.id (suc r.id) rows high h.1 (omega arith)), rest)
      by false rest = rest

  none-before : (id low : ℕ) (rows : List Row) (high : ℕ) → Increase low rows high → id < low → has_id id (map shown rows) ≡ false
  none-before id low rows high h below = has-at id (map shown rows) ∙ ap is_some (at-documents id rows ∙ ap (option_map shown) (row-none id low rows high h below))

  pub apart-documents : (low : ℕ) (rows : List Row) (high : ℕ) → Increase low rows high → AreApart (map shown rows)
  apart-documents low [] high h = tt
  apart-documents low (r ∷ rows) high h = (none-before r.id (suc r.id) rows high h.1 (omega arith), apart-documents (suc r.id) rows high h.1)

-- ---- documents under an id
pub at-append : (id : ℕ) (xs ys : List IndexedDocument) → document_at id (xs ++ ys) ≡ or_else (document_at id xs) (document_at id ys)
at-append id [] ys = refl
at-append id (x ∷ xs) ys = by (x.id == id) (at-append id xs ys)
  where
    by : (b : Bool) → document_at id (xs ++ ys) ≡ or_else (document_at id xs) (document_at id ys)
        → cond b (Some x) (document_at id (xs ++ ys)) ≡ or_else (cond b (Some x) (document_at id xs)) (document_at id ys)
    by true rest = refl
    by false rest = rest

no-document : (b : Bool) → document_at 0 [] ≡ cond b None (document_at 0 [])
no-document true = refl
no-document false = refl

pub at-without : (id : ℕ) (gone documents : List IndexedDocument) → document_at id (without gone documents) ≡ cond (has_id id gone) None (document_at id documents)
at-without id gone [] = no-document (has_id id gone)
at-without id gone (d ∷ ds) = by (d.id == id) refl (at-without id gone ds)
  where
    kept : (b : Bool) → document_at id (cond b (d ∷ without gone ds) (without gone ds)) ≡ cond (b && (d.id == id)) (Some d) (document_at id (without gone ds))
    kept true = refl
    kept false = refl

    here : (b : Bool) (o : Option IndexedDocument) → cond (not b && true) (Some d) (cond b None o) ≡ cond b None (Some d)
    here true o = refl
    here false o = refl

    there : (b : Bool) (o : Option IndexedDocument) → cond (not b && false) (Some d) o ≡ o
    there true o = refl
    there false o = refl

    by : (c : Bool) → (d.id == id) ≡ c → document_at id (without gone ds) ≡ cond (has_id id gone) None (document_at id ds)
        → document_at id (without gone (d ∷ ds)) ≡ cond (has_id id gone) None (cond (d.id == id) (Some d) (document_at id ds))
    by true e rest =
        kept (not (has_id d.id gone)) ∙ ap (λ n. cond (not (has_id n gone) && (d.id == id)) (Some d) (document_at id (without gone ds))) (eqb-true d.id id e)
        ∙ ap (λ b. cond (not (has_id id gone) && b) (Some d) (document_at id (without gone ds))) e
        ∙ ap (cond (not (has_id id gone) && true) (Some d)) rest ∙ here (has_id id gone) (document_at id ds) ∙ sym (ap (cond (has_id id gone) None) (cond-true _ _ _ e))
    by false e rest =
        kept (not (has_id d.id gone)) ∙ ap (λ b. cond (not (has_id d.id gone) && b) (Some d) (document_at id (without gone ds))) e
        ∙ there (has_id d.id gone) (document_at id (without gone ds)) ∙ rest ∙ sym (ap (cond (has_id id gone) None) (cond-false _ _ _ e))

-- ---- the documents that come
pub or-none : {X : Type 0} (o : Option X) → or_else o None ≡ o
or-none None = refl
or-none (Some x) = refl

or-first : {X : Type 0} (o other : Option X) → is_some o ≡ true → or_else o other ≡ o
or-first None other h = absurd (cc)
or-first (Some x) other h = refl

or-second : {X : Type 0} (o other : Option X) → is_some o ≡ false → or_else o other ≡ other
or-second None other h = refl
or-second (Some x) other h = absurd (cc)

module _ (paths : List (List ℕ)) (uses : List PathUse) where
  abbrev come_as : ℕ → StoreRow → IndexedDocument
  come_as id r = indexed paths uses id r.document

  pub at-last : (id : ℕ) (ids : List ℕ) (rs : List StoreRow) → document_at id (last_of paths uses ids rs) ≡ option_map (come_as id) (last_row id ids rs)
  at-last id [] rs = refl
  at-last id (given ∷ ids) [] = refl
  at-last id (given ∷ ids) (r ∷ rs) = by (has_id given (last_of paths uses ids rs)) refl (id == given) refl (at-last id ids rs)
    where
      by : (b : Bool) → has_id given (last_of paths uses ids rs) ≡ b → (c : Bool) → (id == given) ≡ c → document_at id (last_of paths uses ids rs) ≡ option_map (come_as id) (last_row id ids rs)
          → document_at id (cond (has_id given (last_of paths uses ids rs)) (last_of paths uses ids rs) (come_as given r ∷ last_of paths uses ids rs))
          ≡ option_map (come_as id) (or_else (last_row id ids rs) (cond (id == given) (Some r) None))
      by true has true e rest =
          let there : is_some (last_row id ids rs) ≡ true = sym (some-map (come_as id) (last_row id ids rs)) ∙ ap is_some (sym rest) ∙ sym (has-at id (last_of paths uses ids rs))
          ∙ ap (λ n. has_id n (last_of paths uses ids rs)) (eqb-true id given e) ∙ has in
          ap (document_at id) (cond-true _ _ _ has) ∙ rest ∙ ap (option_map (come_as id)) (sym (or-first (last_row id ids rs) _ there))
      by true has false e rest =
          ap (document_at id) (cond-true _ _ _ has) ∙ rest ∙ ap (option_map (come_as id)) (sym (ap (or_else (last_row id ids rs)) (cond-false _ _ _ e) ∙ or-none (last_row id ids rs)))
      by false has true e rest =
          let same : id ≡ given = eqb-true id given e in
          let none : is_some (last_row id ids rs) ≡ false = sym (some-map (come_as id) (last_row id ids rs)) ∙ ap is_some (sym rest) ∙ sym (has-at id (last_of paths uses ids rs))
          ∙ ap (λ n. has_id n (last_of paths uses ids rs)) same ∙ has in
          ap (document_at id) (cond-false _ _ _ has) ∙ cond-true _ _ _ (eq-turned given id ∙ e) ∙ ap (λ n. Some (come_as n r)) (sym same)
          ∙ ap (option_map (come_as id)) (sym (or-second (last_row id ids rs) _ none ∙ cond-true _ _ _ e))
      by false has false e rest =
          ap (document_at id) (cond-false _ _ _ has) ∙ cond-false _ _ _ (eq-turned given id ∙ e) ∙ rest
          ∙ ap (option_map (come_as id)) (sym (ap (or_else (last_row id ids rs)) (cond-false _ _ _ e) ∙ or-none (last_row id ids rs)))

  pub apart-last : (ids : List ℕ) (rs : List StoreRow) → AreApart (last_of paths uses ids rs)
  apart-last [] rs = tt
  apart-last (given ∷ ids) [] = tt
  apart-last (given ∷ ids) (r ∷ rs) = by (has_id given (last_of paths uses ids rs)) refl (apart-last ids rs)
    where
      by : (b : Bool) → has_id given (last_of paths uses ids rs) ≡ b → AreApart (last_of paths uses ids rs)
          → AreApart (cond b (last_of paths uses ids rs) (come_as given r ∷ last_of paths uses ids rs))
      by true has rest = rest
      by false has rest = (has, rest)

-- ---- a stored document is named where another one comes under its id
some-or : {X : Type 0} (o : Option X) (b : Bool) (x : X) → (b || is_some o) ≡ is_some (or_else o (cond b (Some x) None))
some-or None true x = refl
some-or None false x = refl
some-or (Some y) true x = refl
some-or (Some y) false x = refl

named-there : (id : ℕ) (rows : List Row) (r : Row) → row_at id rows ≡ Some r → is_some (id_of r.external rows) ≡ true
named-there id [] r h = absurd (cc)
named-there id (x ∷ rows) r h = by (id == x.id) refl (named-there id rows r)
  where
    kept : (b : Bool) → is_some (id_of r.external rows) ≡ true → is_some (cond b (Some x.id) (id_of r.external rows)) ≡ true
    kept true h = refl
    kept false h = h

    by : (b : Bool) → (id == x.id) ≡ b → (row_at id rows ≡ Some r → is_some (id_of r.external rows) ≡ true) → is_some (cond (bytes_eq r.external x.external) (Some x.id) (id_of r.external rows)) ≡ true
    by true e rest =
        let is : x ≡ r = some-same x r (sym (cond-true _ _ _ e) ∙ h) in
        ap is_some (cond-true (bytes_eq r.external x.external) _ _ (bytes_same r.external x.external (ap (λ y. y.external) (sym is))))
    by false e rest = kept (bytes_eq r.external x.external) (rest (sym (cond-false _ _ _ e) ∙ h))

given-is : (external : List ℕ) (id low next : ℕ) (rows : List Row) (r : Row) → Increase low rows next → sound.AreApart rows → row_at id rows ≡ Some r
    → (id == unwrap_or (id_of external rows) next) ≡ bytes_eq external r.external
given-is external id low next [] r h apart found = absurd (cc)
given-is external id low next (x ∷ rows) r h apart found = by (id == x.id) refl (bytes_eq external x.external) refl (λ later. given-is external id (suc x.id) next rows r h.1 apart.1 later)
  where
    above : suc x.id ≤ unwrap_or (id_of external rows) next
    above = given-low external (suc x.id) rows next h.1

    by : (b : Bool) → (id == x.id) ≡ b → (c : Bool) → bytes_eq external x.external ≡ c → (row_at id rows ≡ Some r → (id == unwrap_or (id_of external rows) next) ≡ bytes_eq external r.external)
        → (id == unwrap_or (cond (bytes_eq external x.external) (Some x.id) (id_of external rows)) next) ≡ bytes_eq external r.external
    by true e true same again =
        let is : x ≡ r = some-same x r (sym (cond-true _ _ _ e) ∙ found) in
        ap (λ o. id == unwrap_or o next) (cond-true _ _ _ same) ∙ e ∙ sym same ∙ ap (λ y. bytes_eq external y.external) is
    by true e false same again =
        let is : x ≡ r = some-same x r (sym (cond-true _ _ _ e) ∙ found) in
        let here : id ≡ x.id = eqb-true id x.id e in
        let low : suc x.id ≤ unwrap_or (id_of external rows) next = above in
        ap (λ o. id == unwrap_or o next) (cond-false _ _ _ same) ∙ ne_eqb id (unwrap_or (id_of external rows) next) (λ q. absurd (omega (arith, low, here, q))) ∙ sym same ∙ ap (λ y. bytes_eq external y.external) is
    by false e true same again =
        let later : row_at id rows ≡ Some r = sym (cond-false _ _ _ e) ∙ found in
        ap (λ o. id == unwrap_or o next) (cond-true _ _ _ same) ∙ e ∙ sym (other (bytes_eq external r.external) refl)
      where
        other : (d : Bool) → bytes_eq external r.external ≡ d → bytes_eq external r.external ≡ false
        other false d = d
        other true d =
            let one : r.external ≡ x.external = sym (same_bytes external r.external d) ∙ same_bytes external x.external same in
            let none : is_some (id_of r.external rows) ≡ false = ap is_some (ap (λ q. id_of q rows) one ∙ apart.0) in
            absurd (true≢false (sym (named-there id rows r (sym (cond-false _ _ _ e) ∙ found)) ∙ none))
    by false e false same again =
        ap (λ o. id == unwrap_or o next) (cond-false _ _ _ same) ∙ again (sym (cond-false _ _ _ e) ∙ found)

pub named-given : (external : List ℕ) (id : ℕ) (rs : List StoreRow) (s : Store) (r : Row) → IsWhole s → row_at id s.rows ≡ Some r → r.external ≡ external
    → list_any (bytes_eq external) (externals rs) ≡ is_some (last_row id (ids_given rs s) rs)
named-given external id [] s r whole found is = refl
named-given external id (new ∷ rs) s r whole found is =
    by (id == id_given new s) refl (λ r1 found1 is1. named-given external id rs (stored new s) r1 (whole-stored new s whole) found1 is1)
  where
    same : (id == id_given new s) ≡ bytes_eq new.external external
    same = given-is new.external id 0 s.next_id s.rows r whole.increase whole.apart found ∙ ap (bytes_eq new.external) is

    turned : bytes_eq external new.external ≡ (id == id_given new s)
    turned = bytes_eq-turned external new.external ∙ sym same

    by : (b : Bool) → (id == id_given new s) ≡ b
        → ((r1 : Row) → row_at id (stored new s).rows ≡ Some r1 → r1.external ≡ external → list_any (bytes_eq external) (externals rs) ≡ is_some (last_row id (ids_given rs (stored new s)) rs))
        → (bytes_eq external new.external || list_any (bytes_eq external) (externals rs)) ≡ is_some (or_else (last_row id (ids_given rs (stored new s)) rs) (cond (id == id_given new s) (Some new) None))
    by b e again =
        ap (λ c. c || list_any (bytes_eq external) (externals rs)) turned ∙ ap (λ c. (id == id_given new s) || c) (after b e)
        ∙ some-or (last_row id (ids_given rs (stored new s)) rs) (id == id_given new s) new
      where
        after : (b : Bool) → (id == id_given new s) ≡ b → list_any (bytes_eq external) (externals rs) ≡ is_some (last_row id (ids_given rs (stored new s)) rs)
        after true e = again (row id new) (at-put new 0 s.next_id id s.rows whole.increase ∙ cond-true _ _ _ e) (sym (same_bytes external new.external (turned ∙ e)))
        after false e = again r (at-put new 0 s.next_id id s.rows whole.increase ∙ cond-false _ _ _ e ∙ found) is
