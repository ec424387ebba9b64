-- Rows of one key, as tests have them.
use Rattle.std.proofs.Common.{◌≡◌, ℕ, pos, Bool, true, false, not, ◌&&◌, ◌||◌, cond, List, [], ◌∷◌, ◌<◌, length, filter, Option, Some, None, refl, sym, ap, ap₂, ◌∙◌}
use Rattle.search_base.specs.declared.cost_key.CostKey.{CostKey}
use Rattle.search_base.specs.declared.cost_key.CostKey.TheVariants as cost
use Rattle.search_base.specs.declared.cost_key.SortKey.TheVariants as sort
use Rattle.search_base.specs.CostOrder.{before}
use Rattle.doc_sets.specs.Sets.{has, intersection, difference}
use Rattle.doc_sets.proofs.SetLemmas.{has-filter}
use Rattle.bucket_sort.specs.Classes.{same}
use Rattle.bucket_sort.specs.declared.bucket.Bucket.{Bucket}
use Rattle.sort_rule.specs.Rows.{is_under}
use Rattle.sort_rule.specs.Ordered.{AreOrdered}

abbrev pub the_key : CostKey
the_key = cost.Up (sort.Number (pos 5))

abbrev pub key_in : List ℕ → ℕ → Option CostKey
key_in docs d = cond (has docs d) (Some the_key) None

filter-same : (p q : ℕ → Bool) (xs : List ℕ) → ((d : ℕ) → p d ≡ q d) → filter p xs ≡ filter q xs
filter-same p q [] e = refl
filter-same p q (x ∷ xs) e = ap₂ (λ b rest. cond b (x ∷ rest) rest) (e x) (filter-same p q xs e)

filter-none : (xs : List ℕ) → filter (λ d. false) xs ≡ []
filter-none [] = refl
filter-none (x ∷ xs) = filter-none xs

under-is : (docs : List ℕ) (at : CostKey) (d : ℕ) → is_under at (key_in docs d) ≡ (has docs d && same before the_key at)
under-is docs at d = cases (has docs d)
  where
    cases : (b : Bool) → is_under at (cond b (Some the_key) None) ≡ (b && same before the_key at)
    cases true = refl
    cases false = refl

pub docs-under : (docs universe : List ℕ) (at : CostKey) → before the_key at ≡ false → before at the_key ≡ false → intersection universe docs ≡ filter (λ d. is_under at (key_in docs d)) universe
docs-under docs universe at e f = filter-same (has docs) (λ d. is_under at (key_in docs d)) universe
    (λ d. sym (under-is docs at d ∙ ap (λ b. has docs d && b) (ap₂ (λ a b. not a && not b) e f) ∙ and-true (has docs d)))
  where
    and-true : (b : Bool) → (b && true) ≡ b
    and-true true = refl
    and-true false = refl

pub none-under : (docs universe : List ℕ) (at : CostKey) → (before the_key at || before at the_key) ≡ true → [] ≡ filter (λ d. is_under at (key_in docs d)) universe
none-under docs universe at e = sym (filter-same (λ d. is_under at (key_in docs d)) (λ d. false) universe (λ d. under-is docs at d ∙ ap (λ b. has docs d && b) (differs (before the_key at) (before at the_key) e) ∙ and-false (has docs d)) ∙ filter-none universe)
  where
    and-false : (b : Bool) → (b && false) ≡ false
    and-false true = refl
    and-false false = refl

    differs : (a b : Bool) → (a || b) ≡ true → (not a && not b) ≡ false
    differs true b e = refl
    differs false true e = refl
    differs false false e = absurd (cc)

key-none : (docs : List ℕ) (d : ℕ) → has docs d ≡ false → key_in docs d ≡ None
key-none docs d e = ap (λ b. cond b (Some the_key) None) e

-- where none of some documents has the key, each is without one
pub missing : (docs universe : List ℕ) → intersection universe docs ≡ [] → (d : ℕ) → has universe d ≡ true → key_in docs d ≡ None
missing docs universe none d h =
    key-none docs d (sym (ap (λ b. b && has docs d) h) ∙ sym (has-filter (has docs) universe d) ∙ ap (λ l. has l d) none)

-- those that have the key are the one bucket, and what is left is without one
pub one-ordered : (docs universe : List ℕ) (bucket : Bucket) → bucket.key ≡ the_key → bucket.docs.ids ≡ intersection universe docs → 0 < length bucket.docs.ids
    → AreOrdered (key_in docs) universe (bucket ∷ [])
one-ordered docs universe bucket key_is docs_are some = (
  record {
    some = some;
    docs_are = docs_are ∙ docs-under docs universe bucket.key (ap (before the_key) key_is) (ap (λ k. before k the_key) key_is);
    is_least = λ d other h e. least d other (has docs d) refl e;
  },
  left,
)
  where
    least : (d : ℕ) (other : CostKey) (b : Bool) → has docs d ≡ b → key_in docs d ≡ Some other → before other bucket.key ≡ false
    least d other true f e =
        let both : Some the_key ≡ Some other = ap (λ b. cond b (Some the_key) None) (sym f) ∙ e in
        let it : the_key ≡ other = cc in
        ap₂ before (sym it) key_is
    least d other false f e = absurd (let none : None ≡ Some other = ap (λ b. cond b (Some the_key) None) (sym f) ∙ e in cc)

    left : (d : ℕ) → has (difference universe bucket.docs.ids) d ≡ true → key_in docs d ≡ None
    left d h = tests (has universe d) (has docs d) refl refl
      where
        out : (has universe d && not (has universe d && has docs d)) ≡ true
        out = sym (ap (λ b. has universe d && not b) (ap (λ l. has l d) docs_are ∙ has-filter (has docs) universe d)) ∙ sym (has-filter (λ x. not (has bucket.docs.ids x)) universe d) ∙ h

        tests : (a b : Bool) → has universe d ≡ a → has docs d ≡ b → key_in docs d ≡ None
        tests a false e f = key-none docs d f
        tests true true e f = absurd (let no = ap₂ (λ x y. x && not (x && y)) (sym e) (sym f) ∙ out in cc)
        tests false true e f = absurd (let no = ap₂ (λ x y. x && not (x && y)) (sym e) (sym f) ∙ out in cc)
