-- Buckets and unions of sets, told by their members.
use Rattle.std.proofs.Common.{◌≡◌, ℕ, zero, suc, ◌<◌, ◌≤◌, ◌==◌, Bool, true, false, not, ◌&&◌, ◌||◌, List, [], ◌∷◌, ◌++◌, filter, length, refl, sym, ap, ◌∙◌, arith, Option, Some, None}
use Rattle.std.specs.List.{list_any, slice_get}
use Rattle.std.proofs.Common.{◌+◌, get_or, take, drop, subst, IfSome}
use Rattle.std.proofs.lemmas.List.{take_more}
use Rattle.std.proofs.lemmas.List.Folds.{list_any-append}
use Rattle.search_base.specs.Least.{least_by, lesser}
use Rattle.search_base.proofs.LeastLemmas.{least_by-append, lesser-none}
use Rattle.search_base.specs.declared.cost_key.CostKey.{CostKey}
use Rattle.search_base.specs.declared.cost_key.CostKey.TheVariants.{Number, Up, Down}
use Rattle.search_base.specs.CostOrder.{before}
use Rattle.doc_sets.specs.Sets.{has, IsIncreasing, union_all}
use Rattle.doc_sets.proofs.SetLemmas.{increasing-same, increasing-filter, has-filter, has-union}
use Rattle.bucket_sort.specs.Buckets.{IsBucket}
use Rattle.bucket_sort.specs.Classes.{same}
use Rattle.rule_buckets.specs.Entries.{is_entry}

-- two tests that hold alike are one
pub alike : (a b : Bool) → (a ≡ true → b ≡ true) → (b ≡ true → a ≡ true) → a ≡ b
alike true b f g = sym (f refl)
alike false true f g = g refl
alike false false f g = refl

entry-same : (n : ℕ) (k : CostKey) → is_entry n k ≡ same before k (Number n)
entry-same n (Number m) = grind arith
entry-same n (Up k) = refl
entry-same n (Down k) = refl

not-before : (n : ℕ) (k : CostKey) → (x : ℕ) × (k ≡ Number x) × (n ≤ x) → before k (Number n) ≡ false
not-before n k (x, e, le) = rw e (grind (arith, le))

-- what has the least entry is a bucket, where it and what is left are told by their members
pub bucket-of : (key : ℕ → CostKey) (old new docs : List ℕ) (n : ℕ) → IsIncreasing old → IsIncreasing new → IsIncreasing docs
    → 0 < length docs → ((d : ℕ) → has docs d ≡ (has old d && is_entry n (key d)))
    → ((d : ℕ) → has new d ≡ (has old d && not (is_entry n (key d))))
    → ((d : ℕ) → has old d ≡ true → (x : ℕ) × (key d ≡ Number x) × (n ≤ x)) → IsBucket before key old new (Number n) docs
bucket-of key old new docs n io inew id some here rest least = record {
  some = some;
  docs_are = increasing-same docs _ id (increasing-filter _ old io)
      (λ d. here d ∙ ap (λ b. has old d && b) (entry-same n (key d)) ∙ sym (has-filter (λ x. same before (key x) (Number n)) old d));
  others_stay = increasing-same new _ inew (increasing-filter _ old io)
      (λ d. rest d ∙ ap (λ b. has old d && not b) (entry-same n (key d)) ∙ sym (has-filter (λ x. not (same before (key x) (Number n))) old d));
  is_least = λ d h. not-before n (key d) (least d h);
}

-- a document is in the union where it is in one of the lists
pub has-union_all : (xss : List (List ℕ)) (d : ℕ) → has (union_all xss) d ≡ list_any (λ xs. has xs d) xss
has-union_all [] d = refl
has-union_all (xs ∷ xss) d = has-union xs (union_all xss) d ∙ ap (λ b. has xs d || b) (has-union_all xss d)

-- a list without members is empty
pub no-members : (xs : List ℕ) → ((d : ℕ) → has xs d ≡ false) → xs ≡ []
no-members [] none = refl
no-members (x ∷ xs) none = absurd (let h : (x == x || has xs x) ≡ false = none x in grind arith)

-- a member of a list that is not empty
pub some-member : (xs : List ℕ) → 0 < length xs → (d : ℕ) × (has xs d ≡ true)
some-member [] h = absurd (omega arith)
some-member (x ∷ xs) h = (x, grind arith)

-- what stands at a place settles whether any does
pub any-at : {X : Type 0} (p : X → Bool) (xs : List X) (k : ℕ) (x : X) → slice_get xs k ≡ Some x → p x ≡ true → list_any p xs ≡ true
any-at p [] k x e h = absurd (cc)
any-at p (y ∷ ys) zero x e h = let same : y ≡ x = cc in rw (same, h) refl
any-at p (y ∷ ys) (suc k) x e h = either (p y) (list_any p ys) (any-at p ys k x e h)
  where
    either : (a b : Bool) → b ≡ true → (a || b) ≡ true
    either true b e = refl
    either false b e = e

-- where any does, there is a place
pub any-where : {X : Type 0} (p : X → Bool) (xs : List X) → list_any p xs ≡ true → (k : ℕ) × (x : X) × (slice_get xs k ≡ Some x) × (p x ≡ true)
any-where p [] h = absurd (cc)
any-where {X} p (y ∷ ys) h = cases (any-where p ys) (p y) refl
  where
    cases : (list_any p ys ≡ true → (k : ℕ) × (x : X) × (slice_get ys k ≡ Some x) × (p x ≡ true)) → (b : Bool) → p y ≡ b
        → (k : ℕ) × (x : X) × (slice_get (y ∷ ys) k ≡ Some x) × (p x ≡ true)
    cases deeper true e = (zero, y, refl, e)
    cases deeper false e = let more = deeper (sym (ap (λ b. b || list_any p ys) e) ∙ h) in (suc more.0, more.1, more.2, more.3)

-- one place more
pub any-more : {X : Type 0} (p : X → Bool) (xs : List X) (i : ℕ) (x : X) → i < length xs → x ≡ get_or xs i x
    → list_any p (take (i + 1) xs) ≡ (list_any p (take i xs) || p x)
any-more p xs i x h e =
    ap (list_any p) (take_more xs i x h) ∙ list_any-append p (take i xs) (get_or xs i x ∷ [])
    ∙ ap (λ b. list_any p (take i xs) || b) (either-false (p (get_or xs i x)) ∙ ap p (sym e))
  where
    either-false : (b : Bool) → (b || false) ≡ b
    either-false true = refl
    either-false false = refl

pub least-more : {X : Type 0} (f : X → Option ℕ) (xs : List X) (i : ℕ) (x : X) → i < length xs → x ≡ get_or xs i x
    → least_by f (take (i + 1) xs) ≡ lesser (least_by f (take i xs)) (f x)
least-more f xs i x h e =
    ap (least_by f) (take_more xs i x h) ∙ least_by-append f (take i xs) (get_or xs i x ∷ [])
    ∙ ap (λ o. lesser (least_by f (take i xs)) o) (lesser-none (f (get_or xs i x)) ∙ ap f (sym e))

pub filter-none : (p : ℕ → Bool) (xs : List ℕ) → ((d : ℕ) → p d ≡ false) → filter p xs ≡ []
filter-none p [] none = refl
filter-none p (x ∷ xs) none = rw (none x) (filter-none p xs none)

pub slice_get-drop : {X : Type 0} (n : ℕ) (xs : List X) (i : ℕ) → slice_get (drop n xs) i ≡ slice_get xs (n + i)
slice_get-drop zero xs i = ap (slice_get xs) (omega arith)
slice_get-drop (suc n) [] i = refl
slice_get-drop (suc n) (x ∷ xs) i = slice_get-drop n xs i ∙ ap (slice_get (x ∷ xs)) (one (n + i) (suc n + i) (omega arith))
  where
    one : (a b : ℕ) → suc a ≡ b → suc a ≡ b
    one a b e = e

-- what holds of what is there
pub told : {X : Type 0} (P : X → Type 0) (o : Option X) (x : X) → IfSome o P → o ≡ Some x → P x
told P o x h e = subst (λ p. IfSome p P) e h

pub tell : {X : Type 0} (P : X → Type 0) (o : Option X) → ((x : X) → o ≡ Some x → P x) → IfSome o P
tell P None f = tt
tell P (Some x) f = f x refl

-- one more at the end
pub any-pushed : {X : Type 0} (p : X → Bool) (xs new : List X) (x : X) → new ≡ xs ++ x ∷ [] → list_any p new ≡ (list_any p xs || p x)
any-pushed p xs new x e = ap (list_any p) e ∙ list_any-append p xs (x ∷ []) ∙ ap (λ b. list_any p xs || b) (either-false (p x))
  where
    either-false : (b : Bool) → (b || false) ≡ b
    either-false true = refl
    either-false false = refl

-- what stands at a place, where it is the first of those that are left
pub first-left : {X : Type 0} (n : ℕ) (xs ys : List X) (x : X) → x ∷ ys ≡ drop n xs → (slice_get xs n ≡ Some x) × (drop (n + 1) xs ≡ ys)
first-left {X} n xs ys x e = let next : suc n ≡ n + 1 = omega arith in subst (λ m. (slice_get xs n ≡ Some x) × (drop m xs ≡ ys)) next (by n xs e)
  where
    by : (m : ℕ) (zs : List X) → x ∷ ys ≡ drop m zs → (slice_get zs m ≡ Some x) × (drop (suc m) zs ≡ ys)
    by zero [] f = absurd (cc)
    by zero (z ∷ zs) f = let a : z ≡ x = cc in let b : zs ≡ ys = cc in (ap (λ v. Some v) a, b)
    by (suc m) [] f = absurd (cc)
    by (suc m) (z ∷ zs) f = by m zs f

pub if-some : {X : Type 0} (P Q : X → Type 0) (o : Option X) → ((x : X) → P x → Q x) → IfSome o P → IfSome o Q
if-some P Q None f h = tt
if-some P Q (Some x) f h = f x h
