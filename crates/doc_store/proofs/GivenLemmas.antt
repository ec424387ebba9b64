-- Internal ids that are given one after the other.
use Rattle.std.proofs.Common.{◌≡◌, ℕ, ◌+◌, ◌≤◌, ◌<◌, cond, List, [], ◌∷◌, ◌++◌, length, map, drop, get_or, Some, refl, sym, ap, subst, ◌∙◌, arith, append_assoc}
use Rattle.std.specs.Prelude.{bytes_eq}
use Rattle.std.specs.Option.{is_some, unwrap_or}
use Rattle.search_base.specs.declared.DocId.{DocId}
use Rattle.doc_store.specs.declared.rows.StoreRow.{StoreRow}
use Rattle.path_registry.specs.Names.{Names}
use Rattle.doc_store.specs.Given.{known_id, AreIdsOf}
use Rattle.doc_store.specs.Store.{Store, id_of, next_after, stored, all_stored, id_given, ids_given}
use Rattle.path_registry.proofs.ReserveLemmas.{drop-item}
use Rattle.doc_store.proofs.RowLemmas.{id_of-put, next_id-grows}

-- The documents that are left make the last store of the one that those so far made, and their ids stand in all ids
-- behind those so far.
pub record Reached (left : List StoreRow) (last : Store) (all : List ℕ) (ids fresh : Names) (free : ℕ) (so_far : List ℕ) : Type 0 where
  pub at : Store
  pub known : AreIdsOf ids fresh free at
  pub rest : all_stored left at ≡ last
  pub given : so_far ++ ids_given left at ≡ all

reached_one : (r : StoreRow) (left : List StoreRow) (last : Store) (all : List ℕ) (ids fresh fresh' : Names) (free free' : ℕ) (given : List ℕ) (id : ℕ)
    → Reached (r ∷ left) last all ids fresh free given
    → id ≡ unwrap_or (known_id ids fresh r.external) free
    → free' ≡ cond (is_some (known_id ids fresh r.external)) free (free + 1)
    → ((q : List ℕ) → known_id ids fresh' q ≡ cond (bytes_eq r.external q) (Some id) (known_id ids fresh q))
    → Reached left last all ids fresh' free' (given ++ id ∷ [])
reached_one r left last all ids fresh fresh' free free' given id h is next known = record {
  at = stored r h.at;
  known = record {
    next = ap (λ o. cond (is_some o) h.at.next_id (h.at.next_id + 1)) (sym (h.known.each r.external)) ∙ ap (λ n. cond (is_some (known_id ids fresh r.external)) n (n + 1)) h.known.next ∙ sym next;
    each = λ q. known q ∙ ap (λ v. cond (bytes_eq r.external q) v (known_id ids fresh q)) (ap Some is_given) ∙ ap (λ v. cond (bytes_eq r.external q) (Some (id_given r h.at)) v) (h.known.each q) ∙ sym (id_of-put r h.at.next_id h.at.rows q);
  };
  rest = h.rest;
  given = append_assoc given (id ∷ []) (ids_given left (stored r h.at)) ∙ ap (λ v. given ++ v ∷ ids_given left (stored r h.at)) is_given ∙ h.given;
}
  where
    is_given : id ≡ id_given r h.at
    is_given = is ∙ ap (λ o. unwrap_or o free) (h.known.each r.external) ∙ ap (unwrap_or (id_of r.external h.at.rows)) (sym h.known.next)

-- what is free after the next document is within what is free in the end
reached_within : (r : StoreRow) (left : List StoreRow) (last : Store) (all : List ℕ) (ids fresh : Names) (free : ℕ) (given : List ℕ)
    → Reached (r ∷ left) last all ids fresh free given → cond (is_some (known_id ids fresh r.external)) free (free + 1) ≤ last.next_id
reached_within r left last all ids fresh free given h =
    let new : next_after r h.at.next_id h.at.rows ≡ cond (is_some (known_id ids fresh r.external)) free (free + 1) =
    ap (λ o. cond (is_some o) h.at.next_id (h.at.next_id + 1)) (sym (h.known.each r.external)) ∙ ap (λ n. cond (is_some (known_id ids fresh r.external)) n (n + 1)) h.known.next in
    let grows = next_id-grows left (stored r h.at) in
    let same : (all_stored left (stored r h.at)).next_id ≡ last.next_id = ap (λ t. t.next_id) h.rest in
    omega arith

map-append : {A B : Type 0} (f : A → B) (xs ys : List A) → map f (xs ++ ys) ≡ map f xs ++ map f ys
map-append f [] ys = refl
map-append f (x ∷ xs) ys = ap (λ v. f x ∷ v) (map-append f xs ys)

-- the same at the document that a loop has come to
pub reached_item : (rows : List StoreRow) (i : ℕ) (r : StoreRow) (external : List ℕ) (last : Store) (all : List ℕ) (ids fresh fresh' : Names) (free free' : ℕ) (given given' : List DocId) (id : ℕ)
    → i < length rows → r ≡ get_or rows i r → external ≡ r.external
    → Reached (drop i rows) last all ids fresh free (map (λ d. d.0) given)
    → id ≡ unwrap_or (known_id ids fresh external) free
    → free' ≡ cond (is_some (known_id ids fresh external)) free (free + 1)
    → ((q : List ℕ) → known_id ids fresh' q ≡ cond (bytes_eq external q) (Some id) (known_id ids fresh q))
    → given' ≡ given ++ record { 0 = id } ∷ []
    → Reached (drop (i + 1) rows) last all ids fresh' free' (map (λ d. d.0) given')
reached_item rows i r external last all ids fresh fresh' free free' given given' id within is same h given_as next known more =
    let here = subst (λ left. Reached left last all ids fresh free (map (λ d. d.0) given)) (drop-item rows i r within is) h in
    let next' = subst (λ e. free' ≡ cond (is_some (known_id ids fresh e)) free (free + 1)) same next in
    let id_is = subst (λ e. id ≡ unwrap_or (known_id ids fresh e) free) same given_as in
    let known' = subst (λ e. (q : List ℕ) → known_id ids fresh' q ≡ cond (bytes_eq e q) (Some id) (known_id ids fresh q)) same known in
    subst (λ l. Reached (drop (i + 1) rows) last all ids fresh' free' l) (sym (ap (map (λ d. d.0)) more ∙ map-append (λ d. d.0) given (record { 0 = id } ∷ [])))
    (reached_one r (drop (i + 1) rows) last all ids fresh fresh' free free' (map (λ d. d.0) given) id here id_is next' known')

pub within_item : (rows : List StoreRow) (i : ℕ) (r : StoreRow) (external : List ℕ) (last : Store) (all : List ℕ) (ids fresh : Names) (free : ℕ) (given : List ℕ)
    → i < length rows → r ≡ get_or rows i r → external ≡ r.external → Reached (drop i rows) last all ids fresh free given
    → cond (is_some (known_id ids fresh external)) free (free + 1) ≤ last.next_id
within_item rows i r external last all ids fresh free given within is same h =
    subst (λ e. cond (is_some (known_id ids fresh e)) free (free + 1) ≤ last.next_id) (sym same)
    (reached_within r (drop (i + 1) rows) last all ids fresh free given (subst (λ left. Reached left last all ids fresh free given) (drop-item rows i r within is) h))
