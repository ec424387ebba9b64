-- The rows of a store from an internal id on.
use Rattle.std.proofs.Common.{◌≡◌, ℕ, suc, ◌+◌, ◌<◌, ◌≤◌, ◌==◌, Bool, true, false, cond, List, [], ◌∷◌, length, Option, Some, None, refl, sym, ap, ap₂, ◌∙◌, arith, eqb-true}
use Rattle.std.specs.Prelude.{nat_le}
use Rattle.std.specs.Option.{is_some, option_map}
use Rattle.serde_json.specs.Data.{Data}
use Rattle.row_index.specs.Documents.{IndexedDocument}
use Rattle.std.specs.List.{filter}
use Rattle.std.proofs.lemmas.Bool.{cond-true, cond-false}
use Rattle.std.proofs.lemmas.Bool.Decides.{nat_tests}
use Rattle.doc_rows.specs.declared.path_use.PathUse.{PathUse}
use Rattle.doc_store.specs.Store.{Row, row_at}
use Rattle.doc_store.specs.Sound.{Increase}
use Rattle.doc_index.specs.Documents.{indexed, rising, with_document}
use Rattle.doc_index.proofs.SameLemmas.{some-same}
use Rattle.doc_index.proofs.StoreLemmas.{row-none}

abbrev pub from_id : ℕ → List Row → List Row
from_id n rows = filter (λ r. nat_le n r.id) rows

from-here : (n : ℕ) (r : Row) → n ≤ r.id → nat_le n r.id ≡ true
from-here n r le = grind (arith, nat_tests)

from-past : (n : ℕ) (r : Row) → r.id < n → nat_le n r.id ≡ false
from-past n r lt = grind (arith, nat_tests)

pub from-all : (n low : ℕ) (rows : List Row) (high : ℕ) → Increase low rows high → n ≤ low → from_id n rows ≡ rows
from-all n low [] high h le = refl
from-all n low (r ∷ rows) high h le =
    cond-true _ _ _ (from-here n r (omega (arith, h.0))) ∙ ap (λ xs. r ∷ xs) (from-all n (suc r.id) rows high h.1 (omega (arith, h.0)))

low-high : (low : ℕ) (rows : List Row) (high : ℕ) → Increase low rows high → low ≤ high
low-high low [] high h = h
low-high low (r ∷ rows) high h = let rest = low-high (suc r.id) rows high h.1 in omega (arith, h.0)

pub from-none : (n low : ℕ) (rows : List Row) (high : ℕ) → Increase low rows high → high ≤ n → from_id n rows ≡ []
from-none n low [] high h le = refl
from-none n low (r ∷ rows) high h le =
    let rest = low-high (suc r.id) rows high h.1 in
    cond-false _ _ _ (from-past n r (omega arith)) ∙ from-none n (suc r.id) rows high h.1 le

abbrev pub with_row : Option Row → List Row → List Row
with_row None rows = rows
with_row (Some r) rows = r ∷ rows

pub id-found : (id : ℕ) (rows : List Row) (r : Row) → row_at id rows ≡ Some r → r.id ≡ id
id-found id [] r h = absurd (cc)
id-found id (x ∷ rows) r h = by (id == x.id) refl (id-found id rows r)
  where
    by : (b : Bool) → (id == x.id) ≡ b → (row_at id rows ≡ Some r → r.id ≡ id) → r.id ≡ id
    by true e rest = ap (λ y. y.id) (sym (some-same x r (sym (cond-true _ _ _ e) ∙ h))) ∙ sym (eqb-true id x.id e)
    by false e rest = rest (sym (cond-false _ _ _ e) ∙ h)

-- one id more
from-step : (n low : ℕ) (rows : List Row) (high : ℕ) → Increase low rows high → from_id n rows ≡ with_row (row_at n rows) (from_id (n + 1) rows)
from-step n low [] high h = refl
from-step n low (r ∷ rows) high h = by (n == r.id) refl (nat_le n r.id) refl (from-step n (suc r.id) rows high h.1)
  where
    by : (b : Bool) → (n == r.id) ≡ b → (c : Bool) → nat_le n r.id ≡ c → from_id n rows ≡ with_row (row_at n rows) (from_id (n + 1) rows) → from_id n (r ∷ rows) ≡ with_row (row_at n (r ∷ rows)) (from_id (n + 1) (r ∷ rows))
    by true e c le again =
        let same : n ≡ r.id = eqb-true n r.id e in
        cond-true _ _ _ (from-here n r (omega arith)) ∙ ap (λ xs. r ∷ xs) (from-all n (suc r.id) rows high h.1 (omega arith) ∙ sym (from-all (n + 1) (suc r.id) rows high h.1 (omega arith)))
        ∙ sym (ap (λ o. with_row o (from_id (n + 1) (r ∷ rows))) (cond-true _ _ _ e) ∙ ap (λ xs. r ∷ xs) (cond-false _ _ _ (from-past (n + 1) r (omega arith))))
    by false e true le again =
        let below : n < r.id = grind (arith, nat_tests) in
        cond-true _ _ _ le ∙ ap (λ xs. r ∷ xs) (from-all n (suc r.id) rows high h.1 (omega arith))
        ∙ sym (ap (λ o. with_row o (from_id (n + 1) (r ∷ rows))) (cond-false _ _ _ e ∙ row-none n (suc r.id) rows high h.1 (omega arith))
        ∙ cond-true _ _ _ (from-here (n + 1) r (omega arith)) ∙ ap (λ xs. r ∷ xs) (from-all (n + 1) (suc r.id) rows high h.1 (omega arith)))
    by false e false le again =
        let above : r.id < n = grind (arith, nat_tests) in
        cond-false _ _ _ le ∙ again
        ∙ sym (ap (λ o. with_row o (from_id (n + 1) (r ∷ rows))) (cond-false _ _ _ e) ∙ ap (with_row (row_at n rows)) (cond-false _ _ _ (from-past (n + 1) r (omega arith))))

with-counted : (o : Option Row) (rows : List Row) → length (with_row o rows) ≡ length rows + cond (is_some o) 1 0
with-counted None rows = omega arith
with-counted (Some r) rows = omega arith

-- the rows from an id on, and those from the next one
module _ (n low : ℕ) (rows : List Row) (high : ℕ) (h : Increase low rows high) where
  pub counted-step : length (from_id n rows) ≡ length (from_id (n + 1) rows) + cond (is_some (row_at n rows)) 1 0
  counted-step = ap length (from-step n low rows high h) ∙ with-counted (row_at n rows) (from_id (n + 1) rows)

  pub rising-step : (paths : List (List ℕ)) (uses : List PathUse) (come : List IndexedDocument)
      → rising paths uses (from_id n rows) come ≡ rising paths uses (from_id (n + 1) rows) (with_document paths uses (row_at n rows) come)
  rising-step paths uses come = ap (λ rs. rising paths uses rs come) (from-step n low rows high h) ∙ by (row_at n rows)
    where
      by : (o : Option Row) → rising paths uses (with_row o (from_id (n + 1) rows)) come ≡ rising paths uses (from_id (n + 1) rows) (with_document paths uses o come)
      by None = refl
      by (Some r) = refl

-- the document that was found under an id
pub with-found : (paths : List (List ℕ)) (uses : List PathUse) (id : ℕ) (rows : List Row) (document : Data) (come : List IndexedDocument)
    → Some document ≡ option_map (λ r. r.document) (row_at id rows) → indexed paths uses id document ∷ come ≡ with_document paths uses (row_at id rows) come
with-found paths uses id rows document come found = by (row_at id rows) refl found
  where
    by : (o : Option Row) → row_at id rows ≡ o → Some document ≡ option_map (λ r. r.document) o → indexed paths uses id document ∷ come ≡ with_document paths uses o come
    by None is h = absurd (cc)
    by (Some r) is h = ap₂ (λ n d. indexed paths uses n d ∷ come) (sym (id-found id rows r is)) (some-same document r.document h)
