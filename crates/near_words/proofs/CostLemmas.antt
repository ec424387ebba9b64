-- The documents that were found, cost by cost.
use Rattle.std.proofs.Common.{◌≡◌, ℕ, ◌+◌, ◌<◌, ◌≤◌, ◌==◌, Bool, true, false, cond, List, [], ◌∷◌, ◌++◌, map, filter, ◌||◌, refl, sym, ap, ap₂, ◌∙◌, arith, append_assoc, append-nil}
use Rattle.std.proofs.lemmas.Bool.{cond-false, ne_eqb, eq-eqb, eqb-true}
use Rattle.near_words.specs.declared.costs.Costed.{Costed}
use Rattle.doc_sets.specs.Sets.{has, AreAbove, IsIncreasing}
use Rattle.near_words.specs.EntryCost.{cost_of}
use Rattle.near_words.specs.ByCost.{run_of, cost_in, ids_at, costed_at}
use Rattle.near_words.specs.FromDocument.{from_document}
use Rattle.near_words.proofs.ReadLemmas.{run_passed}

-- what was found of the documents, and which are left
pub record IsFound (cost : ℕ → ℕ) (ids left : List ℕ) (found : List Costed) : Type 0 where
  pub each : (k : ℕ) → k < 7 → costed_at found k ++ ids_at cost left k ≡ ids_at cost ids k

costed_push : (found : List Costed) (x : Costed) (k : ℕ) → costed_at (found ++ x ∷ []) k ≡ costed_at found k ++ cond (x.cost == k) (x.id.0 ∷ []) []
costed_push [] x k = by (x.cost == k)
  where
    by : (b : Bool) → map (λ (each : Costed). each.id.0) (cond b (x ∷ []) []) ≡ cond b (x.id.0 ∷ []) []
    by true = refl
    by false = refl
costed_push (y ∷ ys) x k = by (y.cost == k) (costed_push ys x k)
  where
    by : (b : Bool) → costed_at (ys ++ x ∷ []) k ≡ costed_at ys k ++ cond (x.cost == k) (x.id.0 ∷ []) []
        → map (λ (each : Costed). each.id.0) (cond b (y ∷ filter (λ (each : Costed). each.cost == k) (ys ++ x ∷ [])) (filter (λ (each : Costed). each.cost == k) (ys ++ x ∷ [])))
        ≡ map (λ (each : Costed). each.id.0) (cond b (y ∷ filter (λ (each : Costed). each.cost == k) ys) (filter (λ (each : Costed). each.cost == k) ys)) ++ cond (x.cost == k) (x.id.0 ∷ []) []
    by true rest = ap (λ v. y.id.0 ∷ v) rest
    by false rest = rest

one_more : (b : Bool) (id : ℕ) (done rest : List ℕ) → (done ++ cond b (id ∷ []) []) ++ rest ≡ done ++ cond b (id ∷ rest) rest
one_more true id done rest = append_assoc done (id ∷ []) rest
one_more false id done rest = ap (λ (v : List ℕ). v ++ rest) (append-nil done)

pub found_more : (cost : ℕ → ℕ) (ids rest : List ℕ) (found : List Costed) (x : Costed) (id : ℕ) → IsFound cost ids (id ∷ rest) found → x.id.0 ≡ id → x.cost ≡ cost id → IsFound cost ids rest (found ++ x ∷ [])
found_more cost ids rest found x id old same is = record {
  each = λ k low.
      ap (λ (v : List ℕ). v ++ ids_at cost rest k) (costed_push found x k)
      ∙ one_more (x.cost == k) x.id.0 (costed_at found k) (ids_at cost rest k)
      ∙ ap (λ n. costed_at found k ++ cond (x.cost == k) (n ∷ ids_at cost rest k) (ids_at cost rest k)) same
      ∙ ap (λ n. costed_at found k ++ cond (n == k) (id ∷ ids_at cost rest k) (ids_at cost rest k)) is
      ∙ old.each k low;
}

pub found_past : (cost : ℕ → ℕ) (ids rest : List ℕ) (found : List Costed) (id : ℕ) → IsFound cost ids (id ∷ rest) found → 7 ≤ cost id → IsFound cost ids rest found
found_past cost ids rest found id old far = record {
  each = λ k low. ap (λ v. costed_at found k ++ v) (sym (cond-false (cost id == k) (id ∷ ids_at cost rest k) (ids_at cost rest k) (ne_eqb _ _ (λ e. omega arith)))) ∙ old.each k low;
}

-- the entries of each document that is left are as in the whole list
pub record AreRead (entries ids left : List ℕ) : Type 0 where
  pub each : (id : ℕ) → has ids id ≡ true → run_of id left ≡ run_of id entries

or_true : (b : Bool) → (b || true) ≡ true
or_true true = refl
or_true false = refl

later_than : (id q : ℕ) (ids : List ℕ) → AreAbove id ids → has ids q ≡ true → id < q
later_than id q [] above member = absurd (cc)
later_than id q (x ∷ xs) above member = by (x == q) refl member (later_than id q xs above.1)
  where
    by : (b : Bool) → (x == q) ≡ b → (b || has xs q) ≡ true → (has xs q ≡ true → id < q) → id < q
    by true is h later = let same = eqb-true x q is in let more = above.0 in omega arith
    by false is h later = later h

pub read_more : (entries left ids : List ℕ) (id : ℕ) → IsIncreasing (id ∷ ids) → AreRead entries (id ∷ ids) left → AreRead entries ids (from_document (id + 1) left)
read_more entries left ids id up read = record {
  each = λ q member.
      let less = later_than id q ids up.0 member in
      run_passed (id + 1) q left (omega arith) ∙ read.each q (ap (λ b. id == q || b) member ∙ or_true (id == q));
}

pub same_cost : (left right lefts rights ids : List ℕ) (id : ℕ) → AreRead left (id ∷ ids) lefts → AreRead right (id ∷ ids) rights → cost_in lefts rights id ≡ cost_in left right id
same_cost left right lefts rights ids id a b =
    let here : has (id ∷ ids) id ≡ true = ap (λ b. b || has ids id) (eq-eqb id id refl) in
    ap₂ cost_of (a.each id here) (b.each id here)
