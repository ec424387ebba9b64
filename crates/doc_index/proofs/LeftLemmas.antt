-- Documents that are taken out one after the other.
use Rattle.std.proofs.Common.{◌≡◌, ℕ, suc, ◌+◌, ◌<◌, ◌≤◌, ◌==◌, not, Bool, true, false, cond, List, [], ◌∷◌, map, refl, sym, ap, ap₂, ◌∙◌, subst, arith, eq-eqb, ne_eqb, eqb-true}
use Rattle.std.specs.List.{filter}
use Rattle.std.proofs.lemmas.Bool.{cond-true, cond-false, eqb-false}
use Rattle.doc_store.specs.Store.{Row, Store, without, removed}
use Rattle.doc_store.specs.Sound.{Increase}
use Rattle.doc_store.proofs.SoundLemmas.{increase-low}
use Rattle.doc_store.proofs.StoreLemmas.{store_same}
use Rattle.doc_index.specs.Left.{without_named, without_all}
use Rattle.doc_index.specs.Named.{is_named, named, stored_of, row_of, AreRead}
use Rattle.doc_index.specs.declared.named.Stored.{Stored}
use Rattle.doc_index.proofs.NamedLemmas.{ids_in}

-- the store without the documents of some internal ids
abbrev pub removed_all : List ℕ → Store → Store
removed_all [] s = s
removed_all (id ∷ ids) s = removed_all ids (removed id s)

abbrev rows_without : List ℕ → List Row → List Row
rows_without [] rows = rows
rows_without (id ∷ ids) rows = rows_without ids (without id rows)

pub removed-parts : (ids : List ℕ) (s : Store) → removed_all ids s ≡ record { paths = s.paths; next_id = s.next_id; rows = rows_without ids s.rows }
removed-parts [] s = store_same s (record { paths = s.paths; next_id = s.next_id; rows = s.rows }) refl refl refl
removed-parts (id ∷ ids) s = removed-parts ids (removed id s)

-- ids above a row's leave it
stays-first : (p : Row → Bool) (r : Row) (low : ℕ) (rows more : List Row) (high : ℕ) → Increase low rows high → r.id < low
    → rows_without (ids_in (filter p rows)) (r ∷ more) ≡ r ∷ rows_without (ids_in (filter p rows)) more
stays-first p r low [] more high h lt = refl
stays-first p r low (x ∷ rows) more high h lt =
    by (p x) (λ more. stays-first p r (suc x.id) rows more high h.1 (omega (arith, h.0)))
  where
    by : (b : Bool) → ((more : List Row) → rows_without (ids_in (filter p rows)) (r ∷ more) ≡ r ∷ rows_without (ids_in (filter p rows)) more)
        → rows_without (ids_in (cond b (x ∷ filter p rows) (filter p rows))) (r ∷ more) ≡ r ∷ rows_without (ids_in (cond b (x ∷ filter p rows) (filter p rows))) more
    by true again = ap (rows_without (ids_in (filter p rows))) (cond-false (x.id == r.id) _ _ (ne_eqb x.id r.id (λ e. absurd (omega (arith, h.0))))) ∙ again (without x.id more)
    by false again = again more

filtered-out : (p : Row → Bool) (low : ℕ) (rows : List Row) (high : ℕ) → Increase low rows high → rows_without (ids_in (filter p rows)) rows ≡ filter (λ r. not (p r)) rows
filtered-out p low [] high h = refl
filtered-out p low (r ∷ rows) high h =
    by (p r) (filtered-out p (suc r.id) rows high h.1) (stays-first p r (suc r.id) rows rows high h.1 (omega arith))
  where
    by : (b : Bool) → rows_without (ids_in (filter p rows)) rows ≡ filter (λ r. not (p r)) rows
        → rows_without (ids_in (filter p rows)) (r ∷ rows) ≡ r ∷ rows_without (ids_in (filter p rows)) rows
        → rows_without (ids_in (cond b (r ∷ filter p rows) (filter p rows))) (r ∷ rows) ≡ cond (not b) (r ∷ filter (λ r. not (p r)) rows) (filter (λ r. not (p r)) rows)
    by true rest first = ap (rows_without (ids_in (filter p rows))) (cond-true (r.id == r.id) _ _ (eq-eqb r.id r.id refl)) ∙ rest
    by false rest first = first ∙ ap (λ rs. r ∷ rs) rest

read-ids : (found : List Stored) (rows : List Row) → AreRead found rows → map (λ f. f.id.0) found ≡ ids_in rows
read-ids [] [] h = refl
read-ids [] (r ∷ rows) h = absurd (cc)
read-ids (f ∷ found) [] h = absurd (cc)
read-ids (f ∷ found) (r ∷ rows) h =
    let first : stored_of f ≡ row_of r = cc in
    let rest : map stored_of found ≡ map row_of rows = cc in
    ap₂ (λ n ns. n ∷ ns) (ap (λ p. p.0) first) (read-ids found rows rest)

pub named-removed : (externals : List (List ℕ)) (found : List Stored) (s : Store) → Increase 0 s.rows s.next_id → AreRead found (named externals s.rows)
    → removed_all (map (λ f. f.id.0) found) s ≡ without_named externals s
named-removed externals found s h read =
    ap (λ ids. removed_all ids s) (read-ids found (named externals s.rows) read) ∙ removed-parts (ids_in (named externals s.rows)) s
    ∙ ap (λ (rows : List Row). record { paths = s.paths; next_id = s.next_id; rows = rows }) (filtered-out (is_named externals) 0 s.rows s.next_id h)

-- ---- all documents
none-left : (id : ℕ) (rows : List Row) (high : ℕ) → high ≤ id → Increase id rows high → rows ≡ []
none-left id [] high past h = refl
none-left id (r ∷ rows) high past h = absurd (let most = increase-low (suc r.id) rows high h.1 in omega (arith, h.0))

none-below : (id low : ℕ) (rows : List Row) (high : ℕ) → id < low → Increase low rows high → without id rows ≡ rows
none-below id low [] high less h = refl
none-below id low (r ∷ rows) high less h =
    cond-false (id == r.id) _ _ (ne_eqb id r.id (λ e. absurd (omega (arith, h.0)))) ∙ ap (λ v. r ∷ v) (none-below id (suc r.id) rows high (omega (arith, h.0)) h.1)

first-gone : (id : ℕ) (rows : List Row) (high : ℕ) → id < high → Increase id rows high → Increase (suc id) (without id rows) high
first-gone id [] high less h = omega arith
first-gone id (r ∷ rows) high less h = by (id == r.id) refl
  where
    by : (b : Bool) → (id == r.id) ≡ b → Increase (suc id) (without id (r ∷ rows)) high
    by true e = subst (λ v. Increase (suc id) v high) (sym (cond-true _ _ _ e)) (subst (λ n. Increase (suc n) rows high) (sym (eqb-true id r.id e)) h.1)
    by false e =
        let above : suc id ≤ r.id = (let other = eqb-false id r.id e in grind (arith, h.0)) in
        subst (λ v. Increase (suc id) v high) (sym (cond-false _ _ _ e))
        (above, subst (λ v. Increase (suc r.id) v high) (sym (none-below id (suc r.id) rows high (omega arith) h.1)) h.1)

-- the documents with smaller internal ids are gone
pub record Clearing (s now : Store) (id : ℕ) : Type 0 where
  pub paths : now.paths ≡ s.paths
  pub next_id : now.next_id ≡ s.next_id
  pub rest : Increase id now.rows now.next_id

pub clearing-one : (s now next : Store) (id : ℕ) → next ≡ removed id now → id < now.next_id → Clearing s now id → Clearing s next (id + 1)
clearing-one s now next id goes less h =
    let more : suc id ≡ id + 1 = omega arith in
    subst (Clearing s next) more (subst (λ t. Clearing s t (suc id)) (sym goes) (record { paths = h.paths; next_id = h.next_id; rest = first-gone id now.rows now.next_id less h.rest }))

pub clearing-end : (s now : Store) (id : ℕ) → now.next_id ≤ id → Clearing s now id → now ≡ without_all s
clearing-end s now id past h = store_same now (without_all s) h.paths h.next_id (none-left id now.rows now.next_id past h.rest)

-- ---- the text of an internal id
