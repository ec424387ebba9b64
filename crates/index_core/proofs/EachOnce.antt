-- The hits of a search stand each once and in order, as many as the window has room for and documents match behind its
-- offset.
use Rattle.std.proofs.Common.{◌≡◌, ℕ, suc, ◌-◌, ◌*◌, ◌<◌, ◌≤◌, ◌==◌, min, Bool, true, cond, List, [], ◌∷◌, ◌++◌, length, map, drop, filter, Option, None, Some, refl, sym, ap, ap₂, subst, ◌∙◌, arith}
use Rattle.std.specs.Prelude.{nat_lt, option_and_then}
use Rattle.std.specs.Option.{option_map}
use Rattle.std.specs.List.{AllByRecursion, filter_map, flat_map, cons_option}
use Rattle.std.proofs.lemmas.List.{length-take, length-drop}
use Rattle.search_base.specs.declared.cost_key.CostKey.{CostKey}
use Rattle.search_base.specs.declared.rule.Rule.{Rule}
use Rattle.search_base.specs.CostOrder.{before}
use Rattle.search_base.specs.Hits as base
use Rattle.search_base.specs.Hits.{costs_before, numbers}
use Rattle.search_base.specs.Query.{Query, cost_under, entry_under, tuple_under}
use Rattle.search_base.specs.RowsView.{RowsView}
use Rattle.search_call.specs.SearchView.{SearchView}
use Rattle.search_call.specs.Windows.{offset_of}
use Rattle.bucket_sort.specs.Hits as bucket
use Rattle.bucket_sort.specs.Hits.{AreOrdered, costs}
use Rattle.bucket_sort.proofs.LawLemmas.{has-its-hits, opens-few}
use Rattle.doc_sets.specs.Sets.{AreAbove, IsIncreasing}
use Rattle.doc_store.specs.Sound.{Increase, IsSound}
use Rattle.doc_store.specs.Store.{Row}
use Rattle.distinct_hits.specs.Kept.{kept}
use Rattle.index_core.specs.Distinct.{distinct_attribute_in}
use Rattle.index_core.specs.Found.{asked_of, candidates_of, in_order, most_hits, texts_of, window_size}
use Rattle.index_core.specs.Looked.{looked_at}
use Rattle.index_changes.specs.Index.{Index}
use Rattle.index_core.specs.Laws.{HitsAreEachOnce}
use Rattle.index_core.specs.Matching.{Matching, with_costs, match_of, matching, costs_in, rows_in, query_in, rules_in}
use Rattle.index_core.specs.Opened as index
use Rattle.index_changes.proofs.ByIds.{rows-there}
use Rattle.index_core.proofs.HitLemmas.{all-hits, hits-seen}
use Rattle.index_core.proofs.KeptLemmas.{ordered-distinct}
use Rattle.index_core.proofs.Tracing.{Matches, matching-match, entries-are, where-passing}

all-weaker : {X : Type 0} (P Q : X → Type 0) → ((x : X) → P x → Q x) → (xs : List X) → AllByRecursion P xs → AllByRecursion Q xs
all-weaker P Q f [] h = tt
all-weaker P Q f (x ∷ xs) h = (f x h.0, all-weaker P Q f xs h.1)

length-mapped : {A B : Type 0} (f : A → B) (xs : List A) → length (map f xs) ≡ length xs
length-mapped f [] = refl
length-mapped f (x ∷ xs) = ap suc (length-mapped f xs)

-- ---- hits by costs that agree

filter-agree : {X : Type 0} (p q : X → Bool) (all : List X) → AllByRecursion (λ m. p m ≡ q m) all → filter p all ≡ filter q all
filter-agree p q [] h = refl
filter-agree p q (x ∷ xs) h = ap₂ (λ b v. cond b (x ∷ v) v) h.0 (filter-agree p q xs h.1)

module _ {X : Type 0} (f g : X → List CostKey) (id : X → ℕ) where
  place-agree : (all : List X) (m : X) → AllByRecursion (λ o. f o ≡ g o) all → f m ≡ g m → base.place_among before f id all m ≡ base.place_among before g id all m
  place-agree all m h e =
      ap length (filter-agree (λ o. base.stands_before before f id o m) (λ o. base.stands_before before g id o m) all
      (all-weaker (λ o. f o ≡ g o) (λ o. base.stands_before before f id o m ≡ base.stands_before before g id o m) (λ o same. ap₂ (λ x y. costs_before before x y (nat_lt (id o) (id m))) same e) all h))

  hit-agree : (all : List X) (k : ℕ) → AllByRecursion (λ o. f o ≡ g o) all → base.hit_at before f id all k ≡ base.hit_at before g id all k
  hit-agree all k h =
      filter-agree (λ m. base.place_among before f id all m == k) (λ m. base.place_among before g id all m == k) all
      (all-weaker (λ o. f o ≡ g o) (λ m. (base.place_among before f id all m == k) ≡ (base.place_among before g id all m == k)) (λ m same. ap (λ n. n == k) (place-agree all m h same)) all h)

  hits-agree : (all : List X) (offset limit : ℕ) → AllByRecursion (λ o. f o ≡ g o) all → base.hits_of before f id all offset limit ≡ base.hits_of before g id all offset limit
  hits-agree all offset limit h = by (numbers offset limit)
    where
      by : (ns : List ℕ) → flat_map (base.hit_at before f id all) ns ≡ flat_map (base.hit_at before g id all) ns
      by [] = refl
      by (n ∷ ns) = ap₂ ◌++◌ (hit-agree all n h) (by ns)

-- what is in order by its ids is in order
ordered-seen : {X : Type 0} (r : ℕ → ℕ → Bool) (s : X → X → Bool) (id : X → ℕ) (P : X → Type 0) → ((x y : X) → P x → P y → r (id x) (id y) ≡ s x y) → (xs : List X) → AllByRecursion P xs → AreOrdered r (map id xs) → AreOrdered s xs
ordered-seen r s id P same [] all h = tt
ordered-seen r s id P same (x ∷ xs) all h = (each xs all.1 h.0, ordered-seen r s id P same xs all.1 h.1)
  where
    each : (ys : List _) → AllByRecursion P ys → AllByRecursion (λ y. r (id x) y ≡ true) (map id ys) → AllByRecursion (λ y. s x y ≡ true) ys
    each [] a k = tt
    each (y ∷ ys) a k = (sym (same x y all.0 a.0) ∙ k.0, each ys a.1 k.1)

-- ---- documents that match

tuple-many : (rows : RowsView) (query : Query) (rules : List Rule) (all : List CostKey) → tuple_under rows query rules ≡ Some all → length rules ≡ length all
tuple-many rows query rules all is = by (cost_under rows.places query.levels) refl
  where
    by : (o : Option ℕ) → cost_under rows.places query.levels ≡ o → length rules ≡ length all
    by None e = absurd (let none : None ≡ Some all = sym (ap (option_map (λ level. map (entry_under rows query level) rules)) e) ∙ is in cc)
    by (Some level) e =
        let some : Some (map (entry_under rows query level) rules) ≡ Some all = sym (ap (option_map (λ level. map (entry_under rows query level) rules)) e) ∙ is in
        let listed : map (entry_under rows query level) rules ≡ all = cc in
        sym (length-mapped (entry_under rows query level) rules) ∙ ap length listed

abbrev id_in : Matching → ℕ
id_in m = m.row.id

above : (i : Index) (call : SearchView) (k low : ℕ) (rows : List Row) (high : ℕ) → Increase low rows high → k < low → AreAbove k (map id_in (filter_map (match_of i call) rows))
above i call k low [] high h less = tt
above i call k low (r ∷ rows) high h less = by (costs_in i call r.document) (above i call k (suc r.id) rows high h.1 (omega (arith, h.0, less)))
  where
    by : (o : Option (List CostKey)) → AreAbove k (map id_in (filter_map (match_of i call) rows)) → AreAbove k (map id_in (cons_option (option_map (with_costs r) o) (filter_map (match_of i call) rows)))
    by None rest = rest
    by (Some all) rest = (omega (arith, h.0, less), rest)

increasing : (i : Index) (call : SearchView) (low : ℕ) (rows : List Row) (high : ℕ) → Increase low rows high → IsIncreasing (map id_in (filter_map (match_of i call) rows))
increasing i call low [] high h = tt
increasing i call low (r ∷ rows) high h = by (costs_in i call r.document) (increasing i call (suc r.id) rows high h.1)
  where
    by : (o : Option (List CostKey)) → IsIncreasing (map id_in (filter_map (match_of i call) rows)) → IsIncreasing (map id_in (cons_option (option_map (with_costs r) o) (filter_map (match_of i call) rows)))
    by None rest = rest
    by (Some all) rest = (above i call r.id (suc r.id) rows high h.1 (omega arith), rest)

module _ (i : Index) (call : SearchView) (sound : IsSound i.store) where
  abbrev key : ℕ → ℕ → CostKey
  key = index.entry_at i call

  abbrev levels : ℕ
  levels = length (rules_in i call)

  abbrev listed : Matching → List CostKey
  listed m = costs before key levels 0 m.row.id

  same-costs : (m : Matching) → Matches i call m → listed m ≡ m.costs
  same-costs m h =
      entries-are i call m.row.id m.costs levels (ap (option_and_then (λ (r : Row). costs_in i call r.document)) h.there ∙ h.costs)
      (tuple-many (rows_in i m.row.document) (query_in i call) (rules_in i call) m.costs (where-passing _ (tuple_under (rows_in i m.row.document) (query_in i call) (rules_in i call)) m.costs h.costs))

  all-same : AllByRecursion (λ m. listed m ≡ m.costs) (matching i call)
  all-same = all-weaker (Matches i call) (λ m. listed m ≡ m.costs) same-costs (matching i call) (matching-match i call i.store.rows (rows-there i.store sound))

  abbrev hits : ℕ → ℕ → List Matching
  hits offset limit = base.hits_of before (λ (m : Matching). m.costs) (λ (m : Matching). m.row.id) (matching i call) offset limit

  seen : (offset limit : ℕ) → map id_in (hits offset limit) ≡ bucket.hits_of before key levels (map id_in (matching i call)) offset limit
  seen offset limit =
      ap (map id_in) (sym (hits-agree listed (λ m. m.costs) id_in (matching i call) offset limit all-same))
      ∙ hits-seen before (costs before key levels 0) (λ d. d) id_in (matching i call) offset limit

  up : IsIncreasing (map id_in (matching i call))
  up = increasing i call 0 i.store.rows i.store.next_id sound.increase

  pub hits-full : (offset limit : ℕ) → length (hits offset limit) ≡ min limit (length (matching i call) - offset)
  hits-full offset limit =
      sym (length-mapped id_in (hits offset limit)) ∙ ap length (seen offset limit) ∙ (has-its-hits key levels (map id_in (matching i call)) offset limit up).full
      ∙ ap (λ k. min limit (k - offset)) (length-mapped id_in (matching i call))

  order-full : length (in_order (matching i call)) ≡ length (matching i call)
  order-full = (let full = hits-full 0 (length (matching i call)) in omega (arith, full))

  -- as many hits as the window has room for and documents may be handed out behind its offset
  pub asked-full : (o : Option (List ℕ)) → length (asked_of o (most_hits i) call (matching i call))
      ≡ min (window_size (most_hits i) call) (length (candidates_of o (matching i call)) - offset_of call.window)
  asked-full None = hits-full (offset_of call.window) (window_size (most_hits i) call) ∙ ap (λ n. min (window_size (most_hits i) call) (n - offset_of call.window)) (sym order-full)
  asked-full (Some attribute) =
      let all = kept (texts_of attribute) (in_order (matching i call)) in
      length-take (window_size (most_hits i) call) (drop (offset_of call.window) all) ∙ ap (min (window_size (most_hits i) call)) (length-drop (offset_of call.window) all)

  -- one bucket a level and match is opened at most, up to the last document that is looked at
  pub opened-few : length (index.opened_in i call) ≤ length (rules_in i call) * min (looked_at i call).end (length (matching i call))
  opened-few =
      subst (λ n. length (index.opened_in i call) ≤ length (rules_in i call) * min (looked_at i call).end n) (length-mapped id_in (matching i call))
      (opens-few key levels (map id_in (matching i call)) (looked_at i call).start (looked_at i call).end up).few

  pub hits-ordered : (offset limit : ℕ) → AreOrdered (base.stands_before before (λ (m : Matching). m.costs) (λ (m : Matching). m.row.id)) (hits offset limit)
  hits-ordered offset limit =
      ordered-seen (bucket.stands_before before key levels 0) (base.stands_before before (λ (m : Matching). m.costs) (λ (m : Matching). m.row.id)) id_in (λ m. listed m ≡ m.costs)
      (λ x y ex ey. ap₂ (λ a b. costs_before before a b (nat_lt x.row.id y.row.id)) ex ey) (hits offset limit)
      (all-hits before (λ (m : Matching). m.costs) id_in (λ m. listed m ≡ m.costs) (matching i call) offset limit all-same)
      (subst (AreOrdered (bucket.stands_before before key levels 0)) (sym (seen offset limit)) (has-its-hits key levels (map id_in (matching i call)) offset limit up).in_order)

pub hits_are_each_once : HitsAreEachOnce
hits_are_each_once i call sound = by (distinct_attribute_in i call)
  where
    by : (o : Option (List ℕ)) → AreOrdered (base.stands_before before (λ (m : Matching). m.costs) (λ (m : Matching). m.row.id)) (asked_of o (most_hits i) call (matching i call))
    by None = hits-ordered i call sound (offset_of call.window) (window_size (most_hits i) call)
    by (Some attribute) =
        ordered-distinct (texts_of attribute) (base.stands_before before (λ (m : Matching). m.costs) (λ (m : Matching). m.row.id)) (in_order (matching i call)) (offset_of call.window)
        (window_size (most_hits i) call) (hits-ordered i call sound 0 (length (matching i call)))
