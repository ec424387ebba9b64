-- Documents found by their ids.
use Rattle.std.proofs.Common.{◌≡◌, ℕ, zero, suc, ◌<◌, ◌≤◌, ◌==◌, Bool, true, false, List, [], ◌∷◌, ◌++◌, map, take, drop, Option, None, Some, refl, sym, ap, subst, ◌∙◌, arith, append_assoc}
use Rattle.std.specs.Prelude.{bytes_eq}
use Rattle.std.specs.Option.{option_map, is_some}
use Rattle.std.specs.List.{AllByRecursion, filter_map, cons_option}
use Rattle.std.proofs.lemmas.Bool.{cond-true, cond-false, eq-eqb, ne_eqb}
use Rattle.std.proofs.lemmas.List.{take-map, drop-map}
use Rattle.serde_json.specs.Data.{Data}
use Rattle.search_base.specs.declared.document.DocId.{DocId}
use Rattle.doc_store.specs.Store.{Row, Store, id_of, row_at}
use Rattle.doc_store.specs.Sound.{Increase, IsSound}
use Rattle.index_changes.specs.Index.{document_under}

-- ---- each document is there under its internal id

abbrev document_at : ℕ → List Row → Option Data
document_at id rows = option_map (λ r. r.document) (row_at id rows)

pub above-absent : (id low : ℕ) (rows : List Row) (high : ℕ) → id < low → Increase low rows high → row_at id rows ≡ None
above-absent id low [] high less h = refl
above-absent id low (r ∷ rows) high less h = cond-false (id == r.id) _ _ (ne_eqb id r.id (λ e. absurd (let l = h.0 in omega arith))) ∙ above-absent id (suc r.id) rows high (let l = h.0 in omega arith) h.1

id-low : (external : List ℕ) (low : ℕ) (rows : List Row) (high id : ℕ) → Increase low rows high → id_of external rows ≡ Some id → low ≤ id
id-low external low [] high id h found = absurd (cc)
id-low external low (r ∷ rows) high id h found = by (bytes_eq external r.external) refl (id-low external (suc r.id) rows high id h.1)
  where
    some_same : (a b : ℕ) → Some a ≡ Some b → a ≡ b
    some_same a b h = cc

    by : (b : Bool) → b ≡ bytes_eq external r.external → (id_of external rows ≡ Some id → suc r.id ≤ id) → low ≤ id
    by true s again = let e : r.id ≡ id = some_same r.id id (sym (cond-true _ _ _ (sym s)) ∙ found) in omega (arith, h.0)
    by false s again = let rest = again (sym (cond-false _ _ _ (sym s)) ∙ found) in omega (arith, h.0)

found-under : (external : List ℕ) (low : ℕ) (rows : List Row) (high id : ℕ) → Increase low rows high → id_of external rows ≡ Some id
    → (document_at id rows ≡ document_under external rows) × (is_some (document_under external rows) ≡ true)
found-under external low [] high id h found = absurd (cc)
found-under external low (r ∷ rows) high id h found = by (bytes_eq external r.external) refl (found-under external (suc r.id) rows high id h.1) (id-low external (suc r.id) rows high id h.1)
  where
    some_same : (a b : ℕ) → Some a ≡ Some b → a ≡ b
    some_same a b h = cc

    by : (b : Bool) → b ≡ bytes_eq external r.external → (id_of external rows ≡ Some id → (document_at id rows ≡ document_under external rows) × (is_some (document_under external rows) ≡ true)) → (id_of external rows ≡ Some id → suc r.id ≤ id)
        → (document_at id (r ∷ rows) ≡ document_under external (r ∷ rows)) × (is_some (document_under external (r ∷ rows)) ≡ true)
    by true s again low =
        let e : r.id ≡ id = some_same r.id id (sym (cond-true _ _ _ (sym s)) ∙ found) in
        let under : document_under external (r ∷ rows) ≡ Some r.document = cond-true _ _ _ (sym s) in
        (ap (option_map (λ (v : Row). v.document)) (cond-true (id == r.id) _ _ (eq-eqb id r.id (sym e))) ∙ sym under, ap is_some under)
    by false s again low =
        let rest = sym (cond-false _ _ _ (sym s)) ∙ found in
        let more = low rest in
        let under : document_under external (r ∷ rows) ≡ document_under external rows = cond-false _ _ _ (sym s) in
        (ap (option_map (λ (v : Row). v.document)) (cond-false (id == r.id) _ _ (ne_eqb id r.id (λ e. absurd (omega arith)))) ∙ (again rest).0 ∙ sym under, ap is_some under ∙ (again rest).1)

none-under : (external : List ℕ) (rows : List Row) → id_of external rows ≡ None → document_under external rows ≡ None
none-under external [] h = refl
none-under external (r ∷ rows) h = by (bytes_eq external r.external) refl (none-under external rows)
  where
    by : (b : Bool) → b ≡ bytes_eq external r.external → (id_of external rows ≡ None → document_under external rows ≡ None) → document_under external (r ∷ rows) ≡ None
    by true s again = absurd (let e = sym (cond-true (bytes_eq external r.external) (Some r.id) (id_of external rows) (sym s)) ∙ h in cc)
    by false s again = cond-false _ _ _ (sym s) ∙ again (sym (cond-false _ _ _ (sym s)) ∙ h)

-- the document under an external id, through its internal id
pub document-under : (external : List ℕ) (s : Store) (id : ℕ) → IsSound s → id_of external s.rows ≡ Some id
    → (option_map (λ r. r.document) (row_at id s.rows) ≡ document_under external s.rows) × (is_some (document_under external s.rows) ≡ true)
document-under external s id sound found = found-under external 0 s.rows s.next_id id sound.increase found

pub no-document-under : (external : List ℕ) (s : Store) → id_of external s.rows ≡ None → document_under external s.rows ≡ None
no-document-under external s none = none-under external s.rows none

-- ---- reading rows one after the other gives their documents

abbrev at_id : List Row → Row → Option Data
at_id all r = document_at r.id all

there : (before : List Row) (r : Row) (after : List Row) (low high : ℕ) → Increase low (before ++ r ∷ after) high → row_at r.id (before ++ r ∷ after) ≡ Some r
there [] r after low high h = cond-true (r.id == r.id) _ _ (eq-eqb r.id r.id refl)
there (b ∷ before) r after low high h = cond-false (r.id == b.id) _ _ (ne_eqb r.id b.id (λ e. absurd (let later = later-id before r after (suc b.id) high h.1 in omega arith))) ∙ there before r after (suc b.id) high h.1
  where
    later-id : (before : List Row) (r : Row) (after : List Row) (low high : ℕ) → Increase low (before ++ r ∷ after) high → low ≤ r.id
    later-id [] r after low high h = h.0
    later-id (b ∷ before) r after low high h = let rest = later-id before r after (suc b.id) high h.1 in let first = h.0 in omega arith

abbrev pub IsThere : List Row → Row → Type 0
IsThere all r = row_at r.id all ≡ Some r

all-there : (before rows : List Row) (high : ℕ) → Increase 0 (before ++ rows) high → AllByRecursion (IsThere (before ++ rows)) rows
all-there before [] high h = tt
all-there before (r ∷ rows) high h = (
  there before r rows 0 high h,
  subst (λ all. AllByRecursion (IsThere all) rows) (append_assoc before (r ∷ []) rows) (all-there (before ++ r ∷ []) rows high (subst (λ all. Increase 0 all high) (sym (append_assoc before (r ∷ []) rows)) h)),
)

pub rows-there : (s : Store) → IsSound s → AllByRecursion (IsThere s.rows) s.rows
rows-there s sound = all-there [] s.rows s.next_id sound.increase

pub rows-drop : (P : Row → Type 0) (n : ℕ) (rows : List Row) → AllByRecursion P rows → AllByRecursion P (drop n rows)
rows-drop P zero rows all = all
rows-drop P (suc n) [] all = tt
rows-drop P (suc n) (r ∷ rows) all = rows-drop P n rows all.1

pub rows-take : (P : Row → Type 0) (n : ℕ) (rows : List Row) → AllByRecursion P rows → AllByRecursion P (take n rows)
rows-take P zero rows all = tt
rows-take P (suc n) [] all = tt
rows-take P (suc n) (r ∷ rows) all = (all.0, rows-take P n rows all.1)

reads-all : (all rows : List Row) → AllByRecursion (IsThere all) rows → filter_map (λ r. at_id all r) rows ≡ map (λ r. r.document) rows
reads-all all [] h = refl
reads-all all (r ∷ rows) h = ap (λ o. cons_option (option_map (λ (v : Row). v.document) o) (filter_map (λ r. at_id all r) rows)) h.0 ∙ ap (λ v. r.document ∷ v) (reads-all all rows h.1)

reads-ids : (all rows : List Row) (ids : List DocId) → map (λ id. id.0) ids ≡ map (λ r. r.id) rows → filter_map (λ id. document_at id.0 all) ids ≡ filter_map (λ r. at_id all r) rows
reads-ids all [] [] e = refl
reads-ids all [] (id ∷ ids) e = absurd (cc)
reads-ids all (r ∷ rows) [] e = absurd (cc)
reads-ids all (r ∷ rows) (id ∷ ids) e =
    let first : id.0 ≡ r.id = cc in
    let rest : map (λ id. id.0) ids ≡ map (λ r. r.id) rows = cc in
    ap (λ n. cons_option (document_at n all) (filter_map (λ id. document_at id.0 all) ids)) first ∙ ap (cons_option (document_at r.id all)) (reads-ids all rows ids rest)

-- a part of the documents, by their ids
pub part-read : (s : Store) (ids : List DocId) (offset limit : ℕ) → IsSound s → map (λ id. id.0) ids ≡ take limit (drop offset (map (λ r. r.id) s.rows))
    → filter_map (λ id. option_map (λ r. r.document) (row_at id.0 s.rows)) ids ≡ take limit (drop offset (map (λ r. r.document) s.rows))
part-read s ids offset limit sound is =
    reads-ids s.rows (take limit (drop offset s.rows)) ids (is ∙ ap (take limit) (drop-map (λ (r : Row). r.id) offset s.rows) ∙ take-map (λ (r : Row). r.id) limit (drop offset s.rows))
    ∙ reads-all s.rows (take limit (drop offset s.rows)) (rows-take (IsThere s.rows) limit (drop offset s.rows) (rows-drop (IsThere s.rows) offset s.rows (rows-there s sound)))
    ∙ sym (ap (take limit) (drop-map (λ r. r.document) offset s.rows) ∙ take-map (λ r. r.document) limit (drop offset s.rows))
