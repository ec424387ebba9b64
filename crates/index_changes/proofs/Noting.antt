-- Documents that are read one after the other, each for its row and its paths, or that were read when they came.
use Rattle.std.proofs.Common.{◌≡◌, ℕ, ◌+◌, List, [], ◌∷◌, ◌++◌, length, map, None, Result, Ok, Err, Some, refl, sym, ap, ◌∙◌, arith, length-append, append-nil, ◌⊎◌, inl, inr}
use Rattle.std.proofs.lemmas.List.{append_assoc, length-map, nil_from_length}
use Rattle.serde_json.specs.Data.{Data}
use Rattle.serde_json.specs.Written.{compact_text}
use Rattle.search_base.specs.Trying.{◌>>=◌, refused_as}
use Rattle.doc_values.specs.Ids.{external_id_of}
use Rattle.doc_values.specs.Stored.{document_at}
use Rattle.doc_values.specs.declared.ids.IdRefusal.{IdRefusal}
use Rattle.doc_values.specs.declared.keys.KeyRefusal.{KeyRefusal}
use Rattle.document_changes.specs.Notes.{AreIdsUnder, FirstGives}
use Rattle.doc_store.specs.Store.{externals}
use Rattle.doc_store.specs.declared.rows.StoreRow.{StoreRow}
use Rattle.index_changes.specs.Keyed.{AreReadBack}
use Rattle.index_changes.specs.Plans.{key_for, rows_under}
use Rattle.index_changes.specs.Refusals.{id_refusal, key_refusal}
use Rattle.index_changes.specs.declared.refusal.CoreRefusal.{CoreRefusal}
use Rattle.index_changes.proofs.Behind.{after_these}

-- before the first, all are left
pub after-none : (rest : Result (List StoreRow) CoreRefusal) → rest ≡ after_these [] rest
after-none (Ok more) = refl
after-none (Err fault) = refl

after-one : (found : List StoreRow) (row : StoreRow) (rest : Result (List StoreRow) CoreRefusal)
    → after_these found (rest >>= (λ rows. Ok (row ∷ rows))) ≡ after_these (found ++ row ∷ []) rest
after-one found row (Ok more) = ap Ok (sym (append_assoc found (row ∷ []) more))
after-one found row (Err fault) = refl

-- a document gives its id, and its row stands behind those that were found
pub one-more : (key : List ℕ) (place : ℕ) (found : List StoreRow) (row : StoreRow) (left : List Data)
    → refused_as (id_refusal place) (external_id_of key row.document) ≡ Ok row.external
    → after_these found (rows_under key place (row.document ∷ left)) ≡ after_these (found ++ row ∷ []) (rows_under key (place + 1) left)
one-more key place found row left is =
    ap (λ (id : Result (List ℕ) CoreRefusal). after_these found (id >>= (λ external. rows_under key (place + 1) left >>= (λ rows. Ok (record { external = external; document = row.document } ∷ rows))))) is
    ∙ after-one found row (rows_under key (place + 1) left)

pub back-more : (found : List StoreRow) (row : StoreRow) → AreReadBack found → document_at (compact_text row.document) ≡ Some row.document
    → AreReadBack (found ++ row ∷ [])
back-more [] row back is = (is, tt)
back-more (r ∷ rs) row back is = (back.0, back-more rs row back.1 is)

-- ---- what was noted of documents when they came

-- the key that the first document gives
pub key-noted : (key : List ℕ) (ds : List Data) → FirstGives key ds → key_for None None ds ≡ Ok (Some key)
key-noted key [] gives = absurd gives
key-noted key (d ∷ ds) gives =
    ap (λ (name : Result (List ℕ) KeyRefusal). refused_as key_refusal name >>= (λ name. Ok (Some name))) gives

abbrev pub documents_in : List StoreRow → List Data
documents_in rows = map (λ r. r.document) rows

-- what one row more holds stands before what is left
pub row-more : {X : Type 0} (f : StoreRow → X) (rows : List StoreRow) (row : StoreRow) (left : List X)
    → map f rows ++ (f row ∷ left) ≡ map f (rows ++ row ∷ []) ++ left
row-more f [] row left = refl
row-more f (r ∷ rs) row left = ap (λ xs. f r ∷ xs) (row-more f rs row left)

-- documents in rows under the ids that they give are the rows that reading them would give
pub rows-given : (key : List ℕ) (place : ℕ) (rows : List StoreRow)
    → AreIdsUnder key (documents_in rows) (externals rows) → rows_under key place (documents_in rows) ≡ Ok rows
rows-given key place [] are = refl
rows-given key place (r ∷ rs) are =
    let first : external_id_of key r.document ≡ Ok r.external = cc in
    let rest : AreIdsUnder key (documents_in rs) (externals rs) = cc in
    ap (λ (id : Result (List ℕ) IdRefusal). refused_as (id_refusal place) id >>= (λ external. rows_under key (place + 1) (documents_in rs) >>= (λ rows. Ok (record { external = external; document = r.document } ∷ rows)))) first
    ∙ ap (λ (found : Result (List StoreRow) CoreRefusal). found >>= (λ rows. Ok (r ∷ rows))) (rows-given key (place + 1) rs rest)

-- as many documents are left as ids
pub left-alike : (key : List ℕ) (texts : List Data) (ids : List (List ℕ)) (rows : List StoreRow) (left : List Data) (more : List (List ℕ))
    → AreIdsUnder key texts ids → documents_in rows ++ left ≡ texts → externals rows ++ more ≡ ids → length left ≡ length more
left-alike key texts ids rows left more are documents externals =
    let same : length texts ≡ length ids = sym (length-map texts (external_id_of key)) ∙ ap length are ∙ length-map ids Ok in
    let of_texts = ap length documents in
    let of_ids = ap length externals in
    omega (arith, length-append (documents_in rows) left, length-append (map (λ (r : StoreRow). r.external) rows) more, length-map rows (λ (r : StoreRow). r.document), length-map rows (λ (r : StoreRow). r.external))

-- once either documents or ids have come to their end, the rows hold all of both
pub all-given : {P Q : Type 0} (key : List ℕ) (texts : List Data) (ids : List (List ℕ)) (rows : List StoreRow) (left : List Data) (more : List (List ℕ))
    → AreIdsUnder key texts ids → documents_in rows ++ left ≡ texts → externals rows ++ more ≡ ids
    → P ⊎ Q → (P → length more ≡ 0) → (Q → length left ≡ 0) → (documents_in rows ≡ texts) × (externals rows ≡ ids)
all-given key texts ids rows left more are documents externals ended ids_end texts_end =
    let alike = left-alike key texts ids rows left more are documents externals in
    let none : (length left ≡ 0) × (length more ≡ 0) = elim ended [ inl p ↦ (alike ∙ ids_end p, ids_end p) | inr q ↦ (texts_end q, sym alike ∙ texts_end q) ] in (
      sym (append-nil (documents_in rows)) ∙ ap (λ ds. documents_in rows ++ ds) (sym (nil_from_length left none.0)) ∙ documents,
      sym (append-nil (map (λ (r : StoreRow). r.external) rows)) ∙ ap (λ es. map (λ (r : StoreRow). r.external) rows ++ es) (sym (nil_from_length more none.1)) ∙ externals,
    )
