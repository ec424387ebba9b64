-- The buckets of documents of which some are before all others.
use Rattle.std.proofs.Common.{◌≡◌, ℕ, ◌<◌, ◌+◌, ◌==◌, Bool, true, false, not, ◌&&◌, List, [], ◌∷◌, length, filter, nat_lt, refl, sym, ap, subst, ◌∙◌, arith}
use Rattle.std.proofs.lemmas.List.Elements.{filter_agree}
use Rattle.std.proofs.lemmas.List.Filters.{length-filter_both}
use Rattle.doc_sets.specs.Sets.{has, intersection, difference}
use Rattle.doc_sets.proofs.SetLemmas.{has-filter}
use Rattle.search_base.specs.CostOrder.{before}
use Rattle.search_base.specs.declared.cost_key.CostKey.TheVariants.{Number}
use Rattle.bucket_sort.specs.Classes.{same}
use Rattle.bucket_sort.specs.Buckets.{IsBucket}
use Rattle.bench_parts.specs.Splits.{split_key}

no-length : (ds : List ℕ) → length ds ≡ 0 → ds ≡ []
no-length [] e = refl
no-length (d ∷ ds) e = absurd (omega arith)

-- what a test for emptiness tells
pub none-if : (n : ℕ) (b : Bool) → b ≡ (n == 0) → b ≡ true → n ≡ 0
none-if n b e h = grind arith

pub some-if : (n : ℕ) (b : Bool) → b ≡ (n == 0) → b ≡ false → 0 < n
some-if n b e h = grind arith

module _ (first : List ℕ) where
  first-key : (d : ℕ) → has first d ≡ same before (split_key first d) (Number 0)
  first-key d = by (has first d) refl
    where
      by : (t : Bool) → has first d ≡ t → has first d ≡ same before (split_key first d) (Number 0)
      by true e = rw e refl
      by false e = rw e refl

  other-key : (d : ℕ) → not (has first d) ≡ same before (split_key first d) (Number 1)
  other-key d = by (has first d) refl
    where
      by : (t : Bool) → has first d ≡ t → not (has first d) ≡ same before (split_key first d) (Number 1)
      by true e = rw e refl
      by false e = rw e refl

  not-other : (d : ℕ) → has first d ≡ not (same before (split_key first d) (Number 1))
  not-other d = by (has first d) refl
    where
      by : (t : Bool) → has first d ≡ t → has first d ≡ not (same before (split_key first d) (Number 1))
      by true e = rw e refl
      by false e = rw e refl

  none-before : (d : ℕ) → before (split_key first d) (Number 0) ≡ false
  none-before d = by (has first d) refl
    where
      by : (t : Bool) → has first d ≡ t → before (split_key first d) (Number 0) ≡ false
      by true e = rw e refl
      by false e = rw e refl

  no-first : (old : List ℕ) (d : ℕ) → length (intersection old first) ≡ 0 → has old d ≡ true → has first d ≡ false
  no-first old d n h =
      let none : intersection old first ≡ [] = no-length (intersection old first) n in
      let there : (has old d && has first d) ≡ false = sym (has-filter (λ x. has first x) old d) ∙ ap (λ l. has l d) none in
      subst (λ b. (b && has first d) ≡ false) h there

  other-before : (d : ℕ) → has first d ≡ false → before (split_key first d) (Number 1) ≡ false
  other-before d e = rw e refl

  pub first-bucket : (old : List ℕ) → 0 < length (intersection old first)
      → IsBucket before (split_key first) old (difference old first) (Number 0) (intersection old first)
  first-bucket old some = record {
    some = some;
    docs_are = filter_agree (λ d. has first d) (λ d. same before (split_key first d) (Number 0)) first-key old;
    others_stay = filter_agree (λ d. not (has first d)) (λ d. not (same before (split_key first d) (Number 0)))
        (λ d. ap not (first-key d)) old;
    is_least = λ d h. none-before d;
  }

  pub other-bucket : (old : List ℕ) → length (intersection old first) ≡ 0 → 0 < length (difference old first)
      → IsBucket before (split_key first) old (intersection old first) (Number 1) (difference old first)
  other-bucket old none some = record {
    some = some;
    docs_are = filter_agree (λ d. not (has first d)) (λ d. same before (split_key first d) (Number 1)) other-key old;
    others_stay = filter_agree (λ d. has first d) (λ d. not (same before (split_key first d) (Number 1))) not-other old;
    is_least = λ d h. other-before d (no-first old d none h);
  }

  pub none-left : (old : List ℕ) → length (intersection old first) ≡ 0 → length (difference old first) ≡ 0 → old ≡ []
  none-left [] n m = refl
  none-left (x ∷ xs) n m =
      let all = length-filter_both (λ d. has first d) (λ d. not (has first d)) (λ d. refl) (x ∷ xs) in absurd (omega arith)
