-- What holds of the rows of any documents.
use Rattle.std.proofs.Common.{◌≡◌, ℕ, ◌==◌, Bool, true, false, not, ◌&&◌, ◌||◌, cond, List, [], ◌∷◌, Option, None, Some, refl, sym, ap, ◌∙◌}
use Rattle.std.specs.List.{list_any, cons_option}
use Rattle.search_base.specs.declared.cost_key.CostKey.{CostKey}
use Rattle.search_base.specs.declared.cost_key.CostKey.TheVariants.{Up, Down}
use Rattle.search_base.specs.declared.cost_key.SortKey.{SortKey}
use Rattle.search_base.specs.declared.cost_key.SortKey.TheVariants as sort
use Rattle.search_base.specs.declared.document.Leaf.{Leaf}
use Rattle.search_base.specs.SortKeys.{leaves_under, least_key, greatest_key}
use Rattle.search_base.specs.CostOrder.{before}
use Rattle.search_base.proofs.CostOrderLemmas.{before-strict, before-alike}
use Rattle.bucket_sort.specs.Classes.{same}
use Rattle.sort_rule.specs.Rows.{AreRows}
use Rattle.rule_buckets.specs.Entries.{if_there, sort_entry, missing_entry}
use Rattle.row_index.specs.Documents.{IndexedDocument, document_at}
use Rattle.doc_search.specs.Entries.{sort_keys}
use Rattle.doc_search.specs.Rows.{rows_of, rows_at}

-- ---- each document has one of the entries, or none

same_is : (j k : CostKey) → same before j k ≡ true → j ≡ k
same_is j k h = by (before j k) (before k j) refl refl h
  where
    by : (a b : Bool) → before j k ≡ a → before k j ≡ b → (not a && not b) ≡ true → j ≡ k
    by true b s t h = absurd (cc)
    by false true s t h = absurd (cc)
    by false false s t h = before-alike j k s t

nothing_there : (up : Bool) (path : ℕ) (k : CostKey) → sort_entry up path [] ≡ Some k → ⊥
nothing_there true path k e = cc
nothing_there false path k e = cc

or_true : (b : Bool) → (b || true) ≡ true
or_true true = refl
or_true false = refl

known_at : (up : Bool) (path : ℕ) (documents : List IndexedDocument) (d : ℕ) (k : CostKey) → sort_entry up path (rows_at documents d).leaves ≡ Some k
    → list_any (same before k) (sort_keys up path documents) ≡ true
known_at up path [] d k e = absurd (nothing_there up path k e)
known_at up path (x ∷ xs) d k e = by (x.id == d) e (known_at up path xs d k)
  where
    here : (o : Option CostKey) → o ≡ Some k → list_any (same before k) (cons_option o (sort_keys up path xs)) ≡ true
    here None e = absurd (cc)
    here (Some j) e =
        let is : j ≡ k = cc in
        ap (λ b. b || list_any (same before k) (sort_keys up path xs))
        (ap (same before k) is ∙ ap (λ b. not b && not b) (before-strict.irreflexive k))

    later : (o : Option CostKey) → list_any (same before k) (sort_keys up path xs) ≡ true
        → list_any (same before k) (cons_option o (sort_keys up path xs)) ≡ true
    later None e = e
    later (Some j) e = ap (λ b. same before k j || b) e ∙ or_true (same before k j)

    by : (b : Bool) → sort_entry up path (rows_of (cond b (Some x) (document_at d xs))).leaves ≡ Some k
        → (sort_entry up path (rows_at xs d).leaves ≡ Some k → list_any (same before k) (sort_keys up path xs) ≡ true)
        → list_any (same before k) (cons_option (sort_entry up path x.rows.leaves) (sort_keys up path xs)) ≡ true
    by true e rest = here (sort_entry up path x.rows.leaves) e
    by false e rest = later (sort_entry up path x.rows.leaves) (rest e)

-- ---- each entry comes before that of documents without one

there_sooner : (key : SortKey) (j : CostKey)
    → (if_there Up key ≡ Some j → before j (Up sort.Missing) ≡ true) × (if_there Down key ≡ Some j → before j (Down sort.Missing) ≡ true)
there_sooner (sort.Number n) j = (
  λ e. ap (λ i. before i (Up sort.Missing)) (let is : j ≡ Up (sort.Number n) = cc in is),
  λ e. ap (λ i. before i (Down sort.Missing)) (let is : j ≡ Down (sort.Number n) = cc in is),
)
there_sooner (sort.Text text) j = (
  λ e. ap (λ i. before i (Up sort.Missing)) (let is : j ≡ Up (sort.Text text) = cc in is),
  λ e. ap (λ i. before i (Down sort.Missing)) (let is : j ≡ Down (sort.Text text) = cc in is),
)
there_sooner sort.Missing j = (λ e. absurd (cc), λ e. absurd (cc))

own_sooner : (up : Bool) (path : ℕ) (leaves : List Leaf) (j : CostKey) → sort_entry up path leaves ≡ Some j → before j (missing_entry up) ≡ true
own_sooner true path leaves j = (there_sooner (least_key (leaves_under path leaves)) j).0
own_sooner false path leaves j = (there_sooner (greatest_key (leaves_under path leaves)) j).1

sooner_than_missing : (up : Bool) (path : ℕ) (documents : List IndexedDocument) (k : CostKey)
    → list_any (same before k) (sort_keys up path documents) ≡ true → before k (missing_entry up) ≡ true
sooner_than_missing up path [] k h = absurd (cc)
sooner_than_missing up path (x ∷ xs) k h = by (sort_entry up path x.rows.leaves) refl h (sooner_than_missing up path xs k)
  where
    by : (o : Option CostKey) → o ≡ sort_entry up path x.rows.leaves → list_any (same before k) (cons_option o (sort_keys up path xs)) ≡ true
        → (list_any (same before k) (sort_keys up path xs) ≡ true → before k (missing_entry up) ≡ true) → before k (missing_entry up) ≡ true
    by None s h later = later h
    by (Some j) s h later = pick (same before k j) refl h
      where
        pick : (b : Bool) → b ≡ same before k j → (b || list_any (same before k) (sort_keys up path xs)) ≡ true → before k (missing_entry up) ≡ true
        pick true t h = ap (λ i. before i (missing_entry up)) (same_is k j (sym t)) ∙ own_sooner up path x.rows.leaves j (sym s)
        pick false t h = later h

pub sorted_at : (up : Bool) (path : ℕ) (documents : List IndexedDocument)
    → AreRows (sort_keys up path documents) (λ d. sort_entry up path (rows_at documents d).leaves) (missing_entry up)
sorted_at up path documents = record {
  known = known_at up path documents;
  sooner = sooner_than_missing up path documents;
}
