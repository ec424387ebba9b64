-- Indexes as the rows of an image, and from them.
use Rattle.std.proofs.Common.{◌≡◌, ℕ, suc, ◌+◌, ◌≤◌, Bool, true, false, List, [], ◌∷◌, ◌++◌, length, map, take, drop, Option, None, Some, option_map, Result, Ok, Err, refl, sym, ap, ap₂, subst, ◌∙◌, arith, bytes_eq}
use Rattle.std.specs.Prelude.{nat_lt, not, ◌&&◌, ◌||◌, unwrap_or}
use Rattle.std.specs.List.{AllByRecursion, filter_map, cons_option}
use Rattle.std.specs.Result.{result_ok}
use Rattle.std.proofs.lemmas.List.{take_all, length-map}
use Rattle.std.proofs.lemmas.Bool.{true≢false, cond-true, cond-false, ltb-true, lt-ltb}
use Rattle.search_base.specs.declared.document.DocId.{DocId}
use Rattle.doc_values.specs.declared.ids.IdRefusal.{IdRefusal}
use Rattle.doc_values.specs.Ids.{external_id_of, is_uid}
use Rattle.doc_values.specs.Walk.{paths_of}
use Rattle.path_registry.specs.Paths.{has_path}
use Rattle.doc_store.specs.Store.{Row, Store, id_of, row_at}
use Rattle.doc_store.specs.Sound.{Increase, AreApart, StandOnce, AreRegistered, CoverRows, IsSound}
use Rattle.path_registry.proofs.NameLemmas.{bytes_eq-turned}
use Rattle.path_registry.proofs.PathLemmas.{has-append}
use Rattle.doc_store.proofs.SoundLemmas.{increase-low}
use Rattle.index_settings.specs.View.{SettingsView}
use Rattle.index_image.specs.declared.rows.ImageDocument.{ImageDocument}
use Rattle.index_image.specs.Names.{has_name}
use Rattle.index_image.specs.Rows.{IndexData}
use Rattle.index_image.specs.State.{EachAfter, is_above, is_next, id_under, external_ids, is_free, are_registered, most_documents, IsNew, IsPlaced, IsIndex}
use Rattle.index_changes.specs.Images.{row_under, index_of, document_of}
use Rattle.index_changes.specs.Index.{Index}
use Rattle.index_changes.specs.Keyed.{AreUnder, NoneWithout, IsKeyed}
use Rattle.index_changes.proofs.ByIds.{IsThere, rows-there}

-- ---- names that stand once

abbrev Fresh : List (List ℕ) → List (List ℕ) → Type 0
Fresh taken names = AllByRecursion (λ name. has_name name taken ≡ false) names

neither : (a b : Bool) → a || b ≡ false → (a ≡ false) × (b ≡ false)
neither true b h = absurd (true≢false h)
neither false b h = (refl, h)

has-behind : (q name : List ℕ) (taken : List (List ℕ)) → has_name q (taken ++ name ∷ []) ≡ (has_name q taken || (bytes_eq q name || false))
has-behind q name taken = has-append q taken (name ∷ [])

fresh-behind : (taken : List (List ℕ)) (name : List ℕ) (names : List (List ℕ)) → Fresh taken names → has_name name names ≡ false → Fresh (taken ++ name ∷ []) names
fresh-behind taken name [] fresh h = tt
fresh-behind taken name (n ∷ names) fresh h =
    let parts = neither (bytes_eq name n) (has_name name names) h in
    (has-behind n name taken ∙ ap₂ (λ a b. a || (b || false)) fresh.0 (bytes_eq-turned n name ∙ parts.0), fresh-behind taken name names fresh.1 parts.1)

fresh-before : (taken : List (List ℕ)) (name : List ℕ) (names : List (List ℕ)) → Fresh (taken ++ name ∷ []) names → Fresh taken names × (has_name name names ≡ false)
fresh-before taken name [] fresh = (tt, refl)
fresh-before taken name (n ∷ names) fresh =
    let rest = fresh-before taken name names fresh.1 in
    let parts = neither (has_name n taken) (bytes_eq n name || false) (sym (has-behind n name taken) ∙ fresh.0) in
    let last = neither (bytes_eq n name) false parts.1 in
    ((parts.0, rest.0), ap₂ (λ a b. a || b) (bytes_eq-turned name n ∙ last.0) rest.1)

new-paths : (taken paths : List (List ℕ)) → Fresh taken paths → StandOnce paths → EachAfter IsNew taken paths
new-paths taken [] fresh once = tt
new-paths taken (path ∷ paths) fresh once = (fresh.0, new-paths (taken ++ path ∷ []) paths (fresh-behind taken path paths fresh.1 once.0) once.1)

once-paths : (taken paths : List (List ℕ)) → EachAfter IsNew taken paths → Fresh taken paths × StandOnce paths
once-paths taken [] h = (tt, tt)
once-paths taken (path ∷ paths) h =
    let rest = once-paths (taken ++ path ∷ []) paths h.1 in
    let before = fresh-before taken path paths rest.0 in
    ((h.0, before.0), (before.1, rest.1))

none-taken : (names : List (List ℕ)) → Fresh [] names
none-taken [] = tt
none-taken (n ∷ names) = (refl, none-taken names)

abbrev ids_in : List Row → List (List ℕ)
ids_in rows = map (λ r. r.external) rows

absent-name : (q : List ℕ) (rows : List Row) → id_of q rows ≡ None → has_name q (ids_in rows) ≡ false
absent-name q [] h = refl
absent-name q (r ∷ rows) h = by (bytes_eq q r.external) refl (absent-name q rows)
  where
    by : (b : Bool) → bytes_eq q r.external ≡ b → (id_of q rows ≡ None → has_name q (ids_in rows) ≡ false) → (bytes_eq q r.external || has_name q (ids_in rows)) ≡ false
    by true e again = absurd (let bad = sym (cond-true (bytes_eq q r.external) (Some r.id) (id_of q rows) e) ∙ h in cc)
    by false e again = ap₂ (λ a b. a || b) e (again (sym (cond-false (bytes_eq q r.external) (Some r.id) (id_of q rows) e) ∙ h))

absent-id : (q : List ℕ) (rows : List Row) → has_name q (ids_in rows) ≡ false → id_of q rows ≡ None
absent-id q [] h = refl
absent-id q (r ∷ rows) h =
    let parts = neither (bytes_eq q r.external) (has_name q (ids_in rows)) h in
    cond-false (bytes_eq q r.external) (Some r.id) (id_of q rows) parts.0 ∙ absent-id q rows parts.1

apart-once : (rows : List Row) → AreApart rows → StandOnce (ids_in rows)
apart-once [] h = tt
apart-once (r ∷ rows) h = (absent-name r.external rows h.0, apart-once rows h.1)

once-apart : (rows : List Row) → StandOnce (ids_in rows) → AreApart rows
once-apart [] h = tt
once-apart (r ∷ rows) h = (absent-id r.external rows h.0, once-apart rows h.1)

-- ---- documents in their places

ids-behind : (key : List ℕ) (before : List ImageDocument) (d : ImageDocument) → external_ids key (before ++ d ∷ []) ≡ external_ids key before ++ unwrap_or (id_under key d.document) [] ∷ []
ids-behind key [] d = refl
ids-behind key (e ∷ before) d = ap (λ v. unwrap_or (id_under key e.document) [] ∷ v) (ids-behind key before d)

next-behind : (before : List ImageDocument) (d : ImageDocument) (id : ℕ) → is_next (before ++ d ∷ []) id ≡ nat_lt d.id.0 id
next-behind [] d id = refl
next-behind (e ∷ []) d id = refl
next-behind (e ∷ f ∷ before) d id = next-behind (f ∷ before) d id

all-registered : (more paths : List (List ℕ)) → AreRegistered more paths → are_registered more paths ≡ true
all-registered [] paths h = refl
all-registered (path ∷ more) paths h = ap₂ (λ a b. a && b) h.0 (all-registered more paths h.1)

both : (a b : Bool) → a && b ≡ true → (a ≡ true) × (b ≡ true)
both true b h = (refl, h)
both false b h = absurd (true≢false (sym h))

each-registered : (more paths : List (List ℕ)) → are_registered more paths ≡ true → AreRegistered more paths
each-registered [] paths h = tt
each-registered (path ∷ more) paths h =
    let parts = both (has_path path paths) (are_registered more paths) h in
    (parts.0, each-registered more paths parts.1)

-- these rows go on where some documents end
pub record GoOn (key : List ℕ) (paths : List (List ℕ)) (next_id low : ℕ) (before : List ImageDocument) (rows : List Row) : Type 0 where
  pub increase : Increase low rows next_id
  pub fresh : Fresh (external_ids key before) (ids_in rows)
  pub once : StandOnce (ids_in rows)
  pub cover : CoverRows rows paths
  pub ids : AreUnder key rows

placed : (key : List ℕ) (paths : List (List ℕ)) (next_id low : ℕ) (before : List ImageDocument) (rows : List Row) → ((id : ℕ) → low ≤ id → is_next before id ≡ true) → GoOn key paths next_id low before rows
    → EachAfter (IsPlaced key paths next_id) before (map document_of rows)
placed key paths next_id low before [] above h = tt
placed key paths next_id low before (r ∷ rows) above h =
    let d = document_of r in
    let own : id_under key r.document ≡ Some r.external = ap result_ok h.ids.0 in
    let taken : external_ids key (before ++ d ∷ []) ≡ external_ids key before ++ r.external ∷ [] = ids-behind key before d ∙ ap (λ o. external_ids key before ++ unwrap_or o [] ∷ []) own in
    let low_next = increase-low (suc r.id) rows next_id h.increase.1 in (
      record {
        next = above r.id h.increase.0;
        below = omega arith;
        fits_in = ap₂ (λ o b. is_free o (external_ids key before) && b) own (all-registered (paths_of r.document) paths h.cover.0) ∙ ap (λ b. not b && true) h.fresh.0;
      },
      placed key paths next_id (suc r.id) (before ++ d ∷ []) rows (λ id le. next-behind before d id ∙ lt-ltb r.id id (omega arith)) (record {
        increase = h.increase.1;
        fresh = subst (λ v. Fresh v (ids_in rows)) (sym taken) (fresh-behind (external_ids key before) r.external (ids_in rows) h.fresh.1 h.once.0);
        once = h.once.1;
        cover = h.cover.1;
        ids = h.ids.1;
      }),
    )

free-is : (o : Option (List ℕ)) (taken : List (List ℕ)) → is_free o taken ≡ true → (o ≡ Some (unwrap_or o [])) × (has_name (unwrap_or o []) taken ≡ false)
free-is None taken h = absurd (true≢false (sym h))
free-is (Some id) taken h = (refl, by (has_name id taken) h)
  where
    by : (b : Bool) → not b ≡ true → b ≡ false
    by true h = sym h
    by false h = refl

ok-is : (r : Result (List ℕ) IdRefusal) (id : List ℕ) → result_ok r ≡ Some id → r ≡ Ok id
ok-is (Ok x) id h = let same : x ≡ id = cc in ap Ok same
ok-is (Err refusal) id h = absurd (cc)

going-on : (key : List ℕ) (paths : List (List ℕ)) (next_id low : ℕ) (before ds : List ImageDocument) → ((id : ℕ) → is_next before id ≡ true → low ≤ id) → low ≤ next_id
    → EachAfter (IsPlaced key paths next_id) before ds → GoOn key paths next_id low before (map (row_under key) ds)
going-on key paths next_id low before [] above within h = record { increase = within; fresh = tt; once = tt; cover = tt; ids = tt }
going-on key paths next_id low before (d ∷ ds) above within h =
    let own = unwrap_or (id_under key d.document) [] in
    let parts = both (is_free (id_under key d.document) (external_ids key before)) (are_registered (paths_of d.document) paths) h.0.fits_in in
    let free = free-is (id_under key d.document) (external_ids key before) parts.0 in
    let rest = going-on key paths next_id (suc d.id.0) (before ++ d ∷ []) ds (λ id next. ltb-true d.id.0 id (sym (next-behind before d id) ∙ next)) h.0.below h.1 in
    let left = fresh-before (external_ids key before) own (ids_in (map (row_under key) ds)) (subst (λ v. Fresh v (ids_in (map (row_under key) ds))) (ids-behind key before d) rest.fresh) in
    record {
      increase = (above d.id.0 h.0.next, rest.increase);
      fresh = (free.1, left.0);
      once = (left.1, rest.once);
      cover = (each-registered (paths_of d.document) paths parts.1, rest.cover);
      ids = (ok-is (external_id_of key d.document) own free.0, rest.ids);
    }

-- ---- an index from an image

documents-go-on : (before : List IndexData) (i : IndexData) → IsIndex before i → GoOn (unwrap_or i.key []) i.paths i.next_id 0 [] (index_of i).store.rows
documents-go-on before i h = going-on (unwrap_or i.key []) i.paths i.next_id 0 [] i.documents (λ id _. omega arith) (omega arith) h.documents

pub image-sound : (before : List IndexData) (i : IndexData) → IsIndex before i → IsSound (index_of i).store
image-sound before i h =
    let rows = documents-go-on before i h in
    record {
      increase = rows.increase;
      apart = once-apart (index_of i).store.rows rows.once;
      once = (once-paths [] i.paths h.paths).1;
      cover = rows.cover;
      ids_within = h.next_id;
      paths_within = h.few_paths;
    }

none-few : (key : Option (List ℕ)) (ds : List ImageDocument) → length ds ≤ most_documents key → NoneWithout key (map (row_under (unwrap_or key [])) ds)
none-few (Some key) ds few = tt
none-few None [] few = refl
none-few None (d ∷ ds) few = absurd (omega arith)

pub image-keyed : (before : List IndexData) (i : IndexData) → IsIndex before i → IsKeyed i.key (index_of i).store.rows
image-keyed before i h = record { given = h.key; none = none-few i.key i.documents h.few_documents; ids = (documents-go-on before i h).ids }

-- ---- an image of an index

-- what stands in an image of an index
abbrev pub image_of : List ℕ → Index → IndexData
image_of uid i = record {
  uid = uid;
  key = i.key;
  next_id = i.store.next_id;
  paths = i.store.paths;
  settings = i.settings;
  documents = map document_of i.store.rows;
}

-- what has the parts of an index is its image
pub image-is : (d : IndexData) (i : Index) → d.key ≡ i.key → d.next_id ≡ i.store.next_id → d.paths ≡ i.store.paths → d.settings ≡ i.settings → d.documents ≡ map document_of i.store.rows → d ≡ image_of d.uid i
image-is d i key next_id paths settings documents =
    ap (λ v. made v d.next_id d.paths d.settings d.documents) key ∙ ap (λ v. made i.key v d.paths d.settings d.documents) next_id ∙ ap (λ v. made i.key i.store.next_id v d.settings d.documents) paths
    ∙ ap (λ v. made i.key i.store.next_id i.store.paths v d.documents) settings ∙ ap (λ v. made i.key i.store.next_id i.store.paths i.settings v) documents
  where
    made : Option (List ℕ) → ℕ → List (List ℕ) → SettingsView → List ImageDocument → IndexData
    made key next_id paths settings documents = record { uid = d.uid; key = key; next_id = next_id; paths = paths; settings = settings; documents = documents }

under-back : (key : List ℕ) (rows : List Row) → AreUnder key rows → map (row_under key) (map document_of rows) ≡ rows
under-back key [] h = refl
under-back key (r ∷ rows) h =
    ap₂ (λ (o : Option (List ℕ)) rest. record { id = r.id; external = unwrap_or o []; document = r.document } ∷ rest) (ap result_ok h.0) (under-back key rows h.1)

pub image-back : (uid : List ℕ) (i : Index) → IsKeyed i.key i.store.rows → index_of (image_of uid i) ≡ i
image-back uid i h =
    ap (λ (rows : List Row). record { key = i.key; store = record { paths = i.store.paths; next_id = i.store.next_id; rows = rows }; settings = i.settings })
    (under-back (unwrap_or i.key []) i.store.rows h.ids)

fewer-rows : (low : ℕ) (rows : List Row) (high : ℕ) → Increase low rows high → low + length rows ≤ high
fewer-rows low [] high h = omega (arith, h)
fewer-rows low (r ∷ rows) high h = let rest = fewer-rows (suc r.id) rows high h.1 in omega (arith, h.0)

few-documents : (key : Option (List ℕ)) (rows : List Row) → NoneWithout key rows → length rows ≤ 1000000 → length (map document_of rows) ≤ most_documents key
few-documents None rows none few = subst (λ (v : List Row). length (map document_of v) ≤ 0) (sym none) (omega arith)
few-documents (Some key) rows none few = subst (λ n. n ≤ 1000000) (sym (length-map rows document_of)) few

pub image-state : (uid : List ℕ) (i : Index) → IsSound i.store → IsKeyed i.key i.store.rows → is_uid uid ≡ true → (before : List IndexData) → is_above before uid ≡ true → IsIndex before (image_of uid i)
image-state uid i sound keyed good before above = record {
  uid = good;
  above = above;
  key = keyed.given;
  next_id = sound.ids_within;
  few_paths = sound.paths_within;
  paths = new-paths [] i.store.paths (none-taken i.store.paths) sound.once;
  few_documents = few-documents i.key i.store.rows keyed.none (let few = fewer-rows 0 i.store.rows i.store.next_id sound.increase in let most = sound.ids_within in omega arith);
  documents = placed (unwrap_or i.key []) i.store.paths i.store.next_id 0 [] i.store.rows (λ id _. refl) (record {
    increase = sound.increase;
    fresh = none-taken (ids_in i.store.rows);
    once = apart-once i.store.rows sound.apart;
    cover = sound.cover;
    ids = keyed.ids;
  });
}

-- ---- the documents of all internal ids

abbrev pub with_id : DocId → Row → ImageDocument
with_id id r = record { id = id; document = r.document }

-- the document with an internal id
abbrev pub document_at : List Row → DocId → Option ImageDocument
document_at rows id = option_map (with_id id) (row_at id.0 rows)

read-each : (all rows : List Row) (ids : List DocId) → map (λ id. id.0) ids ≡ map (λ r. r.id) rows → AllByRecursion (IsThere all) rows → filter_map (document_at all) ids ≡ map document_of rows
read-each all [] [] e h = refl
read-each all [] (id ∷ ids) e h = absurd (cc)
read-each all (r ∷ rows) [] e h = absurd (cc)
read-each all (r ∷ rows) (id ∷ ids) e h =
    let first : id.0 ≡ r.id = cc in
    let rest : map (λ id. id.0) ids ≡ map (λ r. r.id) rows = cc in
    ap (λ n. cons_option (document_at all (record { 0 = n })) (filter_map (document_at all) ids)) first ∙ ap (λ (o : Option Row). cons_option (option_map (with_id (record { 0 = r.id })) o) (filter_map (document_at all) ids)) h.0
    ∙ ap (λ v. document_of r ∷ v) (read-each all rows ids rest h.1)

pub documents-read : (s : Store) (ids : List DocId) (count : ℕ) → IsSound s → count ≡ length s.rows → map (λ id. id.0) ids ≡ take count (drop 0 (map (λ r. r.id) s.rows)) → filter_map (document_at s.rows) ids ≡ map document_of s.rows
documents-read s ids count sound counted listed =
    let many : length (map (λ r. r.id) s.rows) ≤ count = omega (arith, counted, length-map s.rows (λ (r : Row). r.id)) in
    read-each s.rows s.rows ids (listed ∙ take_all count (map (λ (r : Row). r.id) s.rows) many) (rows-there s sound)
