-- The counters of several attributes.
use Rattle.std.proofs.Common.{◌≡◌, ◌≢◌, ℕ, ◌+◌, ◌<◌, ◌≤◌, suc, List, [], ◌∷◌, ◌++◌, length, map, get_or, get_or-set_same, get_or-set_other, below_more, None, refl, sym, subst, ◌∙◌, arith}
use Rattle.std.proofs.Math.ListN.{set, length-set}
use Rattle.std.proofs.lemmas.List.{get_or_read}
use Rattle.search_base.specs.declared.document.Leaf.{Leaf}
use Rattle.search_base.specs.RowsView.{RowsView}
use Rattle.facet_counts.specs.declared.counter.Counter.{Counter}
use Rattle.facet_counts.specs.declared.rows.FacetPath.{FacetPath}
use Rattle.facet_counts.specs.Counting.{IsCounterOf, AreCountsOf, counter_view}

abbrev nobody : Counter
nobody = record { attribute = []; tally = None }

-- the counter after one more document, which has these leaves
abbrev pub HasCounted : List Leaf → Counter → Counter → Type 0
HasCounted leaves old new = (asked : FacetPath) (documents : List RowsView) (rows : RowsView) → rows.leaves ≡ leaves
    → IsCounterOf (counter_view old) asked documents → IsCounterOf (counter_view new) asked (documents ++ rows ∷ [])

-- the first of the counters have counted the document, and the others are as they were
pub record HasAdded (leaves : List Leaf) (done : ℕ) (old new : List Counter) : Type 0 where
  pub long : length new ≡ length old
  pub first : (k : ℕ) → k < done → k < length old → HasCounted leaves (get_or old k nobody) (get_or new k nobody)
  pub other : (k : ℕ) → done ≤ k → get_or new k nobody ≡ get_or old k nobody

all-counted : (rows : RowsView) (old new : List Counter) (asked : List FacetPath) (documents : List RowsView) → length new ≡ length old
    → ((k : ℕ) → k < length old → HasCounted rows.leaves (get_or old k nobody) (get_or new k nobody))
    → AreCountsOf (map counter_view old) asked documents → AreCountsOf (map counter_view new) asked (documents ++ rows ∷ [])
all-counted rows [] [] [] documents long each h = tt
all-counted rows [] (n ∷ new) asked documents long each h = absurd (omega arith)
all-counted rows (o ∷ old) [] asked documents long each h = absurd (omega arith)
all-counted rows (o ∷ old) (n ∷ new) [] documents long each h = absurd h
all-counted rows (o ∷ old) (n ∷ new) (a ∷ asked) documents long each h =
    (each 0 (omega arith) a documents rows refl h.0, all-counted rows old new asked documents (omega arith) (λ k lt. each (suc k) (omega arith)) h.1)
all-counted rows [] [] (a ∷ asked) documents long each h = absurd h

pub added : (leaves : List Leaf) (done : ℕ) (old new : List Counter) → length old ≤ done → HasAdded leaves done old new
    → (asked : List FacetPath) (documents : List RowsView) (rows : RowsView) → rows.leaves ≡ leaves
    → AreCountsOf (map counter_view old) asked documents → AreCountsOf (map counter_view new) asked (documents ++ rows ∷ [])
added leaves done old new all h asked documents rows are =
    all-counted rows old new asked documents h.long
    (λ k lt. let low : k < done = omega arith in subst (λ ls. HasCounted ls (get_or old k nobody) (get_or new k nobody)) (sym are) (h.first k low lt))

-- one counter more has counted it
pub one-more : (leaves : List Leaf) (done : ℕ) (old new : List Counter) (was now : Counter) → done < length new → was ≡ get_or new done was → HasCounted leaves (get_or new done was) now
    → HasAdded leaves done old new → HasAdded leaves (done + 1) old (set new done now)
one-more leaves done old new was now inside is counted h = record {
  long = length-set new done now ∙ h.long;
  first = below_more (λ k. k < length old → HasCounted leaves (get_or old k nobody) (get_or (set new done now) k nobody)) done
      (λ k low lt. let ne : k ≢ done = omega arith in subst (HasCounted leaves (get_or old k nobody)) (sym (get_or-set_other new done k now nobody ne)) (h.first k low lt))
      (λ lt. subst (HasCounted leaves (get_or old done nobody)) (sym (get_or-set_same new done now nobody inside))
      (subst (λ before. HasCounted leaves before now) (sym is ∙ get_or_read new done was inside is nobody ∙ h.other done (omega arith)) counted));
  other = λ k above. let ne : k ≢ done = omega arith in get_or-set_other new done k now nobody ne ∙ h.other k (omega arith);
}

-- a counter behind others
pub counter-behind : (counters : List Counter) (asked : List FacetPath) (counter : Counter) (facet : FacetPath) (documents : List RowsView) → AreCountsOf (map counter_view counters) asked documents
    → IsCounterOf (counter_view counter) facet documents → AreCountsOf (map counter_view (counters ++ counter ∷ [])) (asked ++ facet ∷ []) documents
counter-behind [] [] counter facet documents h one = (one, tt)
counter-behind [] (a ∷ asked) counter facet documents h one = absurd h
counter-behind (c ∷ counters) [] counter facet documents h one = absurd h
counter-behind (c ∷ counters) (a ∷ asked) counter facet documents h one = (h.0, counter-behind counters asked counter facet documents h.1 one)
