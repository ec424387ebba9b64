-- A filter and a query, whichever is asked first.
use Rattle.std.proofs.Common.{◌≡◌, ℕ, Bool, true, false, ◌&&◌, cond, List, [], ◌∷◌, filter, refl, sym, ap, ◌∙◌}
use Rattle.search_base.specs.GraphView.{GraphView}
use Rattle.filter_tree.specs.Tree.{Tree}
use Rattle.row_filter.specs.Holds.{holds}
use Rattle.doc_sets.specs.Sets.{has}
use Rattle.doc_sets.proofs.SetLemmas.{has-filter}
use Rattle.bucket_sort.specs.Buckets.{AreAmong}
use Rattle.rule_buckets.specs.Entries.{is_match}
use Rattle.doc_search.specs.Found.{passes}
use Rattle.doc_search.specs.Matches.{AreInOrder, passing}
use Rattle.doc_search.specs.Rows.{rows_at}
use Rattle.doc_search.specs.Searched.{DocumentsView}
use Rattle.doc_search.proofs.OrderLemmas.{ids_in, all_there, passing_by}

filter_turned : (p q : ℕ → Bool) (xs : List ℕ) → filter p (filter q xs) ≡ filter q (filter p xs)
filter_turned p q [] = refl
filter_turned p q (x ∷ xs) = by (p x) (q x) refl refl (filter_turned p q xs)
  where
    by : (a b : Bool) → p x ≡ a → q x ≡ b → filter p (filter q xs) ≡ filter q (filter p xs)
        → filter p (cond b (x ∷ filter q xs) (filter q xs)) ≡ filter q (cond a (x ∷ filter p xs) (filter p xs))
    by true true is it later =
        ap (λ c. cond c (x ∷ filter p (filter q xs)) (filter p (filter q xs))) is ∙ ap (λ ys. x ∷ ys) later
        ∙ sym (ap (λ c. cond c (x ∷ filter q (filter p xs)) (filter q (filter p xs))) it)
    by true false is it later = later ∙ sym (ap (λ c. cond c (x ∷ filter q (filter p xs)) (filter q (filter p xs))) it)
    by false true is it later = ap (λ c. cond c (x ∷ filter p (filter q xs)) (filter p (filter q xs))) is ∙ later
    by false false is it later = later

-- what passes is among what it is of
pub passing_among : (p : ℕ → Bool) (ids docs : List ℕ) → docs ≡ filter p ids → AreAmong (has ids) docs
passing_among p ids docs is = λ d inside. left (has ids d) (p d) (sym (has-filter p ids d) ∙ ap (λ xs. has xs d) (sym is) ∙ inside)
  where
    left : (a b : Bool) → (a && b) ≡ true → a ≡ true
    left true b h = refl
    left false b h = absurd (cc)

module _ (found among : DocumentsView) (tree : Tree) (is : found ≡ among) (order : AreInOrder found.documents) where
  -- the documents that pass, of all
  pub all_passing : (paths : List (List ℕ)) (ids docs : List ℕ) → paths ≡ found.paths → ids ≡ ids_in found.documents
      → docs ≡ filter (λ d. holds paths (rows_at found.documents d) tree) ids
      → docs ≡ passing (passes among tree) among.documents
  all_passing paths ids docs same all made =
      made ∙ ap (λ ps. filter (λ d. holds ps (rows_at found.documents d) tree) ids) same
      ∙ ap (filter (λ d. holds found.paths (rows_at found.documents d) tree)) all
      ∙ passing_by (λ rows. holds found.paths rows tree) found.documents found.documents (all_there found.documents order)
      ∙ ap (λ (of : DocumentsView). passing (λ rows. holds of.paths rows tree) of.documents) is

  -- those that pass, of those that match
  pub matching_passing : (query : GraphView) (paths : List (List ℕ)) (ids matching docs : List ℕ) → paths ≡ found.paths → ids ≡ ids_in found.documents
      → matching ≡ filter (λ d. is_match (rows_at among.documents d) query) ids
      → docs ≡ filter (λ d. holds paths (rows_at found.documents d) tree) matching
      → docs ≡ filter (λ d. is_match (rows_at among.documents d) query) (passing (passes among tree) among.documents)
  matching_passing query paths ids matching docs same all matched made =
      made ∙ ap (filter (λ d. holds paths (rows_at found.documents d) tree)) matched
      ∙ filter_turned (λ d. holds paths (rows_at found.documents d) tree) (λ d. is_match (rows_at among.documents d) query) ids
      ∙ ap (filter (λ d. is_match (rows_at among.documents d) query))
      (all_passing paths ids (filter (λ d. holds paths (rows_at found.documents d) tree) ids) same all refl)
