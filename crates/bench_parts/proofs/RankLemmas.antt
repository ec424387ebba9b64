-- The documents of a rank.
use Rattle.std.proofs.Common.{◌≡◌, ℕ, zero, suc, ◌+◌, ◌==◌, Bool, true, false, cond, List, [], ◌∷◌, ◌++◌, filter, Option, None, Some, refl, sym, ap, subst, ◌∙◌, arith}
use Rattle.doc_sets.specs.Sets.{intersection}
use Rattle.doc_sets.specs.SetView.{SetView}
use Rattle.condition_graph.specs.declared.condition.Condition.{Condition}
use Rattle.condition_graph.specs.declared.condition.Condition.TheVariants.{Free, Occurs, Pair, AtRank, AtBucket}
use Rattle.condition_graph.specs.Numbers.{at_number}
use Rattle.path_costs.specs.Sets.{set_at, AreByNumber}
use Rattle.bench_parts.specs.Ranks.{rank_of, is_at, is_ranked}
use Rattle.bench_parts.specs.Splits.{ids_at}

pub none-of : (ds : List ℕ) → [] ≡ intersection ds []
none-of [] = refl
none-of (d ∷ ds) = none-of ds

pub all-at : (sets : List SetView) (ds : List ℕ) → ds ≡ filter (is_at sets None) ds
all-at sets [] = refl
all-at sets (d ∷ ds) = ap (λ rest. d ∷ rest) (all-at sets ds)

-- the set at a number, or else some documents
abbrev pub set_or : ℕ → List (ℕ × SetView) → List ℕ → List ℕ
set_or n [] others = others
set_or n (row ∷ rows) others = cond (row.0 == n) row.1.ids (set_or n rows others)

-- the set of a rank, where the sets are those from a rank on
abbrev pub from_rank : ℕ → ℕ → List SetView → List ℕ
from_rank rank n [] = []
from_rank rank n (set ∷ sets) = cond (rank == n) set.ids (from_rank (rank + 1) n sets)

pub from-first : (sets : List SetView) (a n : ℕ) → from_rank a (a + n) sets ≡ ids_at sets n
from-first [] a n = refl
from-first (set ∷ sets) a zero =
    let here : (a == a + zero) ≡ true = grind arith in
    ap (λ b. cond b set.ids (from_rank (a + 1) (a + zero) sets)) here
from-first (set ∷ sets) a (suc n) =
    let other : (a == a + suc n) ≡ false = grind arith in
    let next : a + suc n ≡ a + 1 + n = omega arith in
    ap (λ b. cond b set.ids (from_rank (a + 1) (a + suc n) sets)) other
    ∙ ap (λ k. from_rank (a + 1) k sets) next ∙ from-first sets (a + 1) n

pub or-pushed : (n : ℕ) (rows : List (ℕ × SetView)) (row : ℕ × SetView) (others : List ℕ) → set_or n (rows ++ row ∷ []) others ≡ set_or n rows (cond (row.0 == n) row.1.ids others)
or-pushed n [] row others = refl
or-pushed n (r ∷ rows) row others = ap (λ l. cond (r.0 == n) r.1.ids l) (or-pushed n rows row others)

pub or-none : (n : ℕ) (rows : List (ℕ × SetView)) → set_or n rows [] ≡ set_at n rows
or-none n [] = refl
or-none n (r ∷ rows) = ap (λ l. cond (r.0 == n) r.1.ids l) (or-none n rows)

-- the documents of each rank, in the rows so far or in the sets to come
abbrev pub AreRows : List ℕ → List SetView → ℕ → List (ℕ × SetView) → List SetView → Type 0
AreRows universe sets rank rows rest = (n : ℕ) → set_or n rows (intersection universe (from_rank rank n rest)) ≡ intersection universe (ids_at sets n)

pub rows-more : (universe : List ℕ) (sets : List SetView) (rank : ℕ) (rows new : List (ℕ × SetView)) (both set : SetView) (rest : List SetView) → both.ids ≡ intersection universe set.ids
    → new ≡ rows ++ (rank, both) ∷ [] → AreRows universe sets rank rows (set ∷ rest) → AreRows universe sets (rank + 1) new rest
rows-more universe sets rank rows new both set rest is added are n =
    ap (λ l. set_or n l (intersection universe (from_rank (rank + 1) n rest))) added
    ∙ or-pushed n rows (rank, both) (intersection universe (from_rank (rank + 1) n rest))
    ∙ ap (set_or n rows) (by (rank == n)) ∙ are n
  where
    by : (b : Bool) → cond b both.ids (intersection universe (from_rank (rank + 1) n rest)) ≡ intersection universe (cond b set.ids (from_rank (rank + 1) n rest))
    by true = is
    by false = refl

pub rows-end : (universe : List ℕ) (sets : List SetView) (rank : ℕ) (rows : List (ℕ × SetView)) → AreRows universe sets rank rows [] → (n : ℕ) → set_at n rows ≡ intersection universe (ids_at sets n)
rows-end universe sets rank rows are n = sym (or-none n rows) ∙ ap (set_or n rows) (none-of universe) ∙ are n

at_rank : (condition : Condition) (rank n : ℕ) → rank_of condition ≡ Some rank → rank_of (at_number n condition) ≡ Some n
at_rank Free rank n e = absurd (cc)
at_rank (Occurs term) rank n e = absurd (cc)
at_rank (Pair left right prefix cost) rank n e = absurd (cc)
at_rank (AtRank term own) rank n e = refl
at_rank (AtBucket term at) rank n e = absurd (cc)

pub by-rank : (sets : List SetView) (condition : Condition) (rank : ℕ) (universe : List ℕ) (rows : List (ℕ × SetView)) → rank_of condition ≡ Some rank
    → ((n : ℕ) → set_at n rows ≡ intersection universe (ids_at sets n)) → AreByNumber (is_ranked sets) condition universe rows
by-rank sets condition rank universe rows e are n is = are n ∙ ap (λ r. filter (is_at sets r) universe) (sym (at_rank condition rank n e))
