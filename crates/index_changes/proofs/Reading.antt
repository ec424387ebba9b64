-- Stored documents that were read, found by their external ids.
use Rattle.std.proofs.Common.{◌≡◌, ◌≢◌, ℕ, zero, suc, ◌<◌, ◌≤◌, ◌==◌, Bool, true, false, cond, List, [], ◌∷◌, length, map, filter, get_or, Option, None, Some, refl, sym, ap, ap₂, subst, ◌∙◌, arith}
use Rattle.std.specs.Prelude.{bytes_eq, slice_get, nat_lt}
use Rattle.std.specs.Option.{option_map, is_some}
use Rattle.std.specs.List.{list_any}
use Rattle.std.proofs.lemmas.Bool.{cond-true, cond-false, cond_both, eq-eqb, ne_eqb, eqb-false, ltb-true, ltb-false}
use Rattle.std.specs.List.Sorted.{IsNonDecreasingBy, IsPartitionPoint}
use Rattle.serde_json.specs.Data.{Data}
use Rattle.doc_index.specs.declared.named.Stored.{Stored}
use Rattle.doc_index.specs.Named.{is_named, named, stored_of, row_of, AreRead}
use Rattle.doc_store.specs.Store.{Row, Store, id_of, row_at}
use Rattle.doc_store.specs.Sound.{Increase, IsSound}
use Rattle.doc_store.proofs.LawLemmas.{id_of-low}
use Rattle.path_registry.proofs.NameLemmas.{same_bytes}
use Rattle.index_changes.specs.Index.{document_under}
use Rattle.index_changes.specs.Updating.{IsRead}

-- ---- stored documents that were read

-- the first of these with an internal id
abbrev text_at : ℕ → List Stored → Option Data
text_at id [] = None
text_at id (x ∷ xs) = cond (id == x.id.0) (Some x.text) (text_at id xs)

-- the internal ids rise
abbrev Rise : ℕ → List Stored → Type 0
Rise low [] = Unit {0}
Rise low (x ∷ xs) = (low ≤ x.id.0) × Rise (suc x.id.0) xs

text-same : (id : ℕ) (stored : List Stored) (rows : List Row) → AreRead stored rows → text_at id stored ≡ option_map (λ r. r.document) (row_at id rows)
text-same id [] [] h = refl
text-same id [] (r ∷ rows) h = absurd (cc)
text-same id (x ∷ xs) [] h = absurd (cc)
text-same id (x ∷ xs) (r ∷ rows) h =
    let one : stored_of x ≡ row_of r = cc in
    let more : map stored_of xs ≡ map row_of rows = cc in
    ap₂ (λ n d. cond (id == n) (Some d) (text_at id xs)) (ap (λ p. p.0) one) (ap (λ p. p.1) one) ∙ ap (cond (id == r.id) (Some r.document)) (text-same id xs rows more) ∙ by (id == r.id)
  where
    by : (b : Bool) → cond b (Some r.document) (option_map (λ r. r.document) (row_at id rows)) ≡ option_map (λ r. r.document) (cond b (Some r) (row_at id rows))
    by true = refl
    by false = refl

rise-read : (p : Row → Bool) (stored : List Stored) (low : ℕ) (rows : List Row) (high : ℕ) → Increase low rows high → AreRead stored (filter p rows) → Rise low stored
rise-read p stored low [] high h read = nothing stored read
  where
    nothing : (stored : List Stored) → AreRead stored [] → Rise low stored
    nothing [] read = tt
    nothing (x ∷ xs) read = absurd (cc)
rise-read p stored low (r ∷ rows) high h read = by (p r) stored read (λ stored. rise-read p stored (suc r.id) rows high h.1)
  where
    lower : (stored : List Stored) → Rise (suc r.id) stored → Rise low stored
    lower [] up = tt
    lower (x ∷ xs) up = (omega (arith, h.0, up.0), up.1)

    by : (b : Bool) (stored : List Stored) → AreRead stored (cond b (r ∷ filter p rows) (filter p rows)) → ((stored : List Stored) → AreRead stored (filter p rows) → Rise (suc r.id) stored) → Rise low stored
    by false stored read again = lower stored (again stored read)
    by true [] read again = tt
    by true (x ∷ xs) read again =
        let one : stored_of x ≡ row_of r = cc in
        let same : x.id.0 ≡ r.id = ap (λ p. p.0) one in
        let more : map stored_of xs ≡ map row_of (filter p rows) = cc in
        (omega (arith, h.0, same), subst (λ n. Rise (suc n) xs) (sym same) (again xs more))

abbrev pub id_in : Stored → ℕ
id_in x = x.id.0

rise-first : (low : ℕ) (x : Stored) (xs : List Stored) (k : ℕ) (d : Stored) → Rise low (x ∷ xs) → k < suc (length xs) → x.id.0 ≤ id_in (get_or (x ∷ xs) k d)
rise-first low x xs zero d h less = omega arith
rise-first low x [] (suc k) d h less = absurd (omega (arith, less))
rise-first low x (y ∷ ys) (suc k) d h less = let rest = rise-first (suc x.id.0) y ys k d h.1 (omega (arith, less)) in let up = h.1.0 in omega (arith, rest, up)

rise-sorted : (low : ℕ) (xs : List Stored) → Rise low xs → IsNonDecreasingBy id_in xs
rise-sorted low [] h i j d le less = absurd (omega (arith, less))
rise-sorted low (x ∷ xs) h zero j d le less = rise-first low x xs j d h less
rise-sorted low (x ∷ xs) h (suc i) zero d le less = absurd (omega (arith, le))
rise-sorted low (x ∷ xs) h (suc i) (suc j) d le less = rise-sorted (suc x.id.0) xs h.1 i j d (omega (arith, le)) (omega (arith, less))

above-none : (id low : ℕ) (xs : List Stored) → Rise low xs → id < low → text_at id xs ≡ None
above-none id low [] h less = refl
above-none id low (x ∷ xs) h less = cond-false (id == x.id.0) _ _ (ne_eqb id x.id.0 (λ e. absurd (omega (arith, h.0, less)))) ∙ above-none id (suc x.id.0) xs h.1 (omega (arith, h.0, less))

-- the first that is not below an internal id has it, where one has it
abbrev pub IsPoint : ℕ → List Stored → ℕ → Type 0
IsPoint id xs i = IsPartitionPoint (λ x. nat_lt (id_in x) id ≡ true) (λ x. nat_lt (id_in x) id ≡ false) xs i

at-point : (id low : ℕ) (xs : List Stored) (i : ℕ) → Rise low xs → IsPoint id xs i → is_some (text_at id xs) ≡ true → i ≤ length xs → option_map (λ x. x.text) (slice_get xs i) ≡ text_at id xs
at-point id low [] i h point there within = absurd (cc)
at-point id low (x ∷ xs) zero h point there within = by (id == x.id.0) refl
  where
    first : nat_lt (id_in x) id ≡ false
    first = point.1 0 x (omega arith) (omega arith)

    by : (b : Bool) → (id == x.id.0) ≡ b → Some x.text ≡ text_at id (x ∷ xs)
    by true e = sym (cond-true _ _ _ e)
    by false e =
        let low_id = ltb-false x.id.0 id first in
        let other = eqb-false id x.id.0 e in
        let none : text_at id (x ∷ xs) ≡ None = cond-false _ _ _ e ∙ above-none id (suc x.id.0) xs h.1 (other-below id x.id.0 low_id other) in
        absurd (let bad = sym there ∙ ap is_some none in cc)
      where
        other-below : (a b : ℕ) → a ≤ b → a ≢ b → a < suc b
        other-below a b le ne = omega (arith, le)
at-point id low (x ∷ xs) (suc i) h point there within =
    let first = ltb-true x.id.0 id (point.0 0 x (omega arith) (omega arith)) in
    let skip : text_at id (x ∷ xs) ≡ text_at id xs = cond-false (id == x.id.0) _ _ (ne_eqb id x.id.0 (λ e. absurd (omega (arith, first, e)))) in
    at-point id (suc x.id.0) xs i h.1 ((λ k d le less. point.0 (suc k) d (omega arith) (omega (arith, less))), (λ k d le less. point.1 (suc k) d (omega (arith, le)) (omega (arith, less)))) (sym (ap is_some skip) ∙ there) (omega (arith, within)) ∙ sym skip

-- the named one of an external id is the stored one
named-one : (ids : List (List ℕ)) (external : List ℕ) (id low : ℕ) (rows : List Row) (high : ℕ) → Increase low rows high → list_any (bytes_eq external) ids ≡ true → id_of external rows ≡ Some id
    → (option_map (λ r. r.document) (row_at id (named ids rows)) ≡ document_under external rows) × (is_some (document_under external rows) ≡ true)
named-one ids external id low [] high h among found = absurd (cc)
named-one ids external id low (r ∷ rows) high h among found = by (bytes_eq external r.external) refl (named-one ids external id (suc r.id) rows high h.1 among) (id_of-low external (suc r.id) rows high id h.1)
  where
    some_same : (a b : ℕ) → Some a ≡ Some b → a ≡ b
    some_same a b h = cc

    by : (b : Bool) → bytes_eq external r.external ≡ b
        → (id_of external rows ≡ Some id → (option_map (λ r. r.document) (row_at id (named ids rows)) ≡ document_under external rows) × (is_some (document_under external rows) ≡ true)) → (id_of external rows ≡ Some id → suc r.id ≤ id)
        → (option_map (λ r. r.document) (row_at id (named ids (r ∷ rows))) ≡ document_under external (r ∷ rows)) × (is_some (document_under external (r ∷ rows)) ≡ true)
    by true e again low =
        let same : r.id ≡ id = some_same r.id id (sym (cond-true _ _ _ e) ∙ found) in
        let yes : is_named ids r ≡ true = ap (λ v. list_any (bytes_eq v) ids) (sym (same_bytes external r.external e)) ∙ among in
        let under : document_under external (r ∷ rows) ≡ Some r.document = cond-true _ _ _ e in (
          ap (λ v. option_map (λ r. r.document) (row_at id v)) (cond-true (is_named ids r) (r ∷ named ids rows) (named ids rows) yes)
              ∙ ap (option_map (λ (v : Row). v.document)) (cond-true (id == r.id) (Some r) (row_at id (named ids rows)) (eq-eqb id r.id (sym same))) ∙ sym under,
          ap is_some under,
        )
    by false e again low =
        let rest = sym (cond-false (bytes_eq external r.external) (Some r.id) (id_of external rows) e) ∙ found in
        let above = low rest in
        let under : document_under external (r ∷ rows) ≡ document_under external rows = cond-false _ _ _ e in
        let skip : row_at id (r ∷ named ids rows) ≡ row_at id (named ids rows) = cond-false (id == r.id) _ _ (ne_eqb id r.id (λ same. absurd (omega (arith, above, same)))) in (
          cond_both (is_named ids r) (r ∷ named ids rows) (named ids rows) (λ v. option_map (λ r. r.document) (row_at id v) ≡ option_map (λ r. r.document) (row_at id (named ids rows))) (λ _. ap (option_map (λ (v : Row). v.document)) skip) (λ _. refl)
              ∙ (again rest).0 ∙ sym under,
          ap is_some under ∙ (again rest).1,
        )

pub read-sorted : (external : List ℕ) (stored : List Stored) (s : Store) → IsSound s → IsRead external stored s → IsNonDecreasingBy id_in stored
read-sorted external stored s sound h = rise-sorted 0 stored (rise-read (is_named h.ids) stored 0 s.rows s.next_id sound.increase h.read)

pub text-read : (external : List ℕ) (stored : List Stored) (s : Store) (id i : ℕ) → IsSound s → IsRead external stored s → id_of external s.rows ≡ Some id → IsPoint id stored i → i ≤ length stored
    → option_map (λ x. x.text) (slice_get stored i) ≡ document_under external s.rows
text-read external stored s id i sound h found point within =
    let one = named-one h.ids external id 0 s.rows s.next_id sound.increase h.among found in
    let same = text-same id stored (named h.ids s.rows) h.read in
    at-point id 0 stored i (rise-read (is_named h.ids) stored 0 s.rows s.next_id sound.increase h.read) point (ap is_some (same ∙ one.0) ∙ one.1) within ∙ same ∙ one.0
