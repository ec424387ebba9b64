-- What stands in a table that is kept.
use Rattle.std.proofs.Common.{◌≡◌, ℕ, zero, suc, ◌<◌, ◌≤◌, ◌==◌, Bool, true, false, ◌&&◌, ◌||◌, List, [], ◌∷◌, filter, length, drop, slice_index_or, Some, cond, refl, sym, ap, subst, ◌∙◌, arith}
use Rattle.doc_sets.specs.Sets.{has, intersection}
use Rattle.doc_sets.proofs.SetLemmas.{has-filter}
use Rattle.doc_sets.specs.SetView.{SetView}
use Rattle.condition_graph.specs.declared.condition.Condition.{Condition}
use Rattle.condition_graph.specs.declared.condition.Condition.TheVariants.{Free, Occurs, Pair, AtRank, AtBucket}
use Rattle.condition_graph.specs.Meets.{meets}
use Rattle.condition_graph.specs.Numbers.{number_of, at_number}
use Rattle.condition_graph.specs.Promise.{IsCondition}
use Rattle.path_costs.specs.Sets.{set_at}
use Rattle.path_costs.proofs.SetLemmas.{filter-agree}
use Rattle.rule_buckets.specs.declared.asked.Table.{Table}
use Rattle.rule_buckets.specs.Tables.{IsTable}
use Rattle.search_base.specs.RowsView.{RowsView}
use Rattle.std.specs.List.{AllByRecursion}

-- nothing is in both, where nothing is in one
pub none-of : (xs : List ℕ) → intersection xs [] ≡ []
none-of [] = refl
none-of (x ∷ xs) = none-of xs

-- no set stands behind the last row
pub none-left : (n : ℕ) (rows : List (ℕ × SetView)) (i : ℕ) → length rows ≤ i → set_at n (drop i rows) ≡ []
none-left n [] zero low = refl
none-left n [] (suc i) low = refl
none-left n (row ∷ rows) zero low = absurd (omega arith)
none-left n (row ∷ rows) (suc i) low = none-left n rows i (omega arith)

fewer : (p : ℕ → Bool) (xs : List ℕ) → length (filter p xs) ≤ length xs
fewer p [] = grind arith
fewer p (x ∷ xs) = by (p x) (fewer p xs)
  where
    by : (b : Bool) → length (filter p xs) ≤ length xs → length (cond b (x ∷ filter p xs) (filter p xs)) ≤ suc (length xs)
    by true h = omega arith
    by false h = omega arith

-- a filter that keeps as many keeps all
all-kept : (p : ℕ → Bool) (xs : List ℕ) → length (filter p xs) ≡ length xs → filter p xs ≡ xs
all-kept p [] e = refl
all-kept p (x ∷ xs) e = by (p x) (all-kept p xs) (fewer p xs) e
  where
    by : (b : Bool) → (length (filter p xs) ≡ length xs → filter p xs ≡ xs) → length (filter p xs) ≤ length xs
        → length (cond b (x ∷ filter p xs) (filter p xs)) ≡ suc (length xs) → cond b (x ∷ filter p xs) (filter p xs) ≡ x ∷ xs
    by true h few same = ap (λ rest. x ∷ rest) (h (omega arith))
    by false h few same = absurd (omega arith)

-- a set that has as many in common with another as it has is within it
pub all-within : (xs ys : List ℕ) → length (intersection xs ys) ≡ length xs → (d : ℕ) → has xs d ≡ true → has ys d ≡ true
all-within xs ys same d h = second (has xs d) (has ys d) (sym (has-filter (λ x. has ys x) xs d) ∙ ap (λ l. has l d) (all-kept (λ x. has ys x) xs same) ∙ h)
  where
    second : (a b : Bool) → (a && b) ≡ true → b ≡ true
    second true b e = e
    second false b e = absurd (cc)

-- of a smaller universe the same documents meet the condition
pub of-smaller : (p : ℕ → Bool) (set whole universe : List ℕ) → set ≡ filter p whole → ((d : ℕ) → has universe d ≡ true → has whole d ≡ true)
    → intersection universe set ≡ filter p universe
of-smaller p set whole universe is within = filter-agree (λ d. has set d) p universe (λ d h. ap (λ l. has l d) is ∙ has-filter p whole d ∙ ap (λ b. b && p d) (within d h))

-- the documents at a number of a table, where they are of a smaller universe
pub table-tells : (rows : ℕ → RowsView) (table : Table) (condition : Condition) (n : ℕ) (universe docs : List ℕ) (stand : List (ℕ × SetView))
    → IsTable rows table → condition ≡ at_number n table.condition → IsCondition condition
    → ((d : ℕ) → has universe d ≡ true → has table.universe.ids d ≡ true) → stand ≡ table.rows.items → docs ≡ intersection universe (set_at n stand)
    → docs ≡ filter (λ d. meets (rows d).places condition) universe
table-tells rows table condition n universe docs stand is alike asked within same docs_are =
    docs_are ∙ ap (λ l. intersection universe (set_at n l)) same
    ∙ of-smaller (λ d. meets (rows d).places condition) (set_at n table.rows.items) table.universe.ids universe
    (is n (subst IsCondition alike asked) ∙ ap (λ (of : Condition). filter (λ d. meets (rows d).places of) table.universe.ids) (sym alike)) within

-- what holds of each table holds of one
pub each-at : (P : Table → Type 0) (tables : List Table) (i : ℕ) (table : Table) → AllByRecursion P tables → i < length tables
    → table ≡ slice_index_or tables i table → P table
each-at P [] i table all low e = absurd (omega arith)
each-at P (x ∷ xs) zero table all low e = subst P (sym e) all.0
each-at P (x ∷ xs) (suc i) table all low e = each-at P xs i table all.1 (omega arith) e

-- a condition is that on its own number
pub at-own : (condition : Condition) (n : ℕ) → number_of condition ≡ Some n → condition ≡ at_number n condition
at-own Free n e = refl
at-own (Occurs term) n e = refl
at-own (Pair left right right_prefix cost) n e = let same : cost ≡ n = cc in ap (λ m. Pair left right right_prefix m) same
at-own (AtRank term rank) n e = let same : rank ≡ n = cc in ap (λ m. AtRank term m) same
at-own (AtBucket term at) n e = let same : at ≡ n = cc in ap (λ m. AtBucket term m) same
