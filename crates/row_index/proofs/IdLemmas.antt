-- Ids of documents that go, stay and come.
use Rattle.std.proofs.Common.{◌≡◌, ℕ, ◌+◌, ◌<◌, Bool, true, false, not, ◌==◌, ◌&&◌, ◌||◌, cond, List, [], ◌∷◌, ◌++◌, length, take, get_or, refl, sym, ap, ◌∙◌}
use Rattle.std.proofs.lemmas.Bool.{eqb-true}
use Rattle.std.proofs.lemmas.List.{take_more}
use Rattle.std.proofs.lemmas.List.Folds.{list_any-append}
use Rattle.search_base.specs.declared.document.DocId.{DocId}
use Rattle.doc_sets.specs.Sets.{has, with_id}
use Rattle.doc_sets.specs.Membership.{AreByMembers}
use Rattle.leaf_table.specs.Changes.{numbers}
use Rattle.row_index.specs.Documents.{IndexedDocument, has_id, without, after}

and_false : (x : Bool) → (x && false) ≡ false
and_false true = refl
and_false false = refl

-- one document more: it goes or stays, and it has the id or not
step : (goes is rest there gone : Bool) → (is ≡ true → goes ≡ gone) → rest ≡ (there && not gone)
    → cond (not goes) (is || rest) rest ≡ ((is || there) && not gone)
step true true rest there true same told = told ∙ and_false there
step true true rest there false same told = let e : true ≡ false = same refl in absurd (cc)
step true false rest there gone same told = told
step false true rest there true same told = let e : false ≡ true = same refl in absurd (cc)
step false true rest there false same told = refl
step false false rest there gone same told = told

has_kept : (id : ℕ) (d : IndexedDocument) (ds : List IndexedDocument) (b : Bool)
    → has_id id (cond b (d ∷ ds) ds) ≡ cond b ((d.id == id) || has_id id ds) (has_id id ds)
has_kept id d ds true = refl
has_kept id d ds false = refl

has_without : (id : ℕ) (gone documents : List IndexedDocument)
    → has_id id (without gone documents) ≡ (has_id id documents && not (has_id id gone))
has_without id gone [] = refl
has_without id gone (d ∷ ds) =
    has_kept id d (without gone ds) (not (has_id d.id gone))
    ∙ step (has_id d.id gone) (d.id == id) (has_id id (without gone ds)) (has_id id ds) (has_id id gone)
    (λ h. ap (λ n. has_id n gone) (eqb-true d.id id h)) (has_without id gone ds)

-- the ids after a change
pub has_after : (id : ℕ) (gone come documents : List IndexedDocument)
    → has_id id (after gone come documents) ≡ (has_id id come || (has_id id documents && not (has_id id gone)))
has_after id gone come documents =
    list_any-append (λ (document : IndexedDocument). document.id == id) come (without gone documents)
    ∙ ap (λ b. has_id id come || b) (has_without id gone documents)

-- an id behind others
pub has_behind : (xs : List DocId) (d : DocId) (q : ℕ) → has (numbers (xs ++ d ∷ [])) q ≡ ((d.0 == q) || has (numbers xs) q)
has_behind [] d q = refl
has_behind (x ∷ xs) d q = ap (λ b. (x.0 == q) || b) (has_behind xs d q) ∙ turned (x.0 == q) (d.0 == q) (has (numbers xs) q)
  where
    turned : (a b c : Bool) → (a || (b || c)) ≡ (b || (a || c))
    turned true true c = refl
    turned true false c = refl
    turned false true c = refl
    turned false false c = refl

or_same : (a b c : Bool) → ((a || b) || c) ≡ (a || (b || c))
or_same true b c = refl
or_same false b c = refl

-- one id more of a list is added to a set
pub has_one_more : AreByMembers → (ids : List DocId) (i : ℕ) (d : DocId) (start old new : List ℕ) → i < length ids
    → ((q : ℕ) → has old q ≡ (has (numbers (take i ids)) q || has start q)) → new ≡ with_id (get_or ids i d).0 old
    → (q : ℕ) → has new q ≡ (has (numbers (take (i + 1) ids)) q || has start q)
has_one_more law ids i d start old new within told is q =
    let x = get_or ids i d in
    ap (λ set. has set q) is
    ∙ law.with_id x.0 q old
    ∙ ap (λ b. (x.0 == q) || b) (told q)
    ∙ sym (or_same (x.0 == q) (has (numbers (take i ids)) q) (has start q))
    ∙ ap (λ b. b || has start q) (sym (ap (λ xs. has (numbers xs) q) (take_more ids i d within) ∙ has_behind (take i ids) x q))
