-- The slice of documents by their entries is the slice of their matches.
use Rattle.std.proofs.Common.{◌≡◌, ℕ, zero, suc, ◌+◌, ◌==◌, Bool, true, false, cond, List, [], ◌∷◌, ◌++◌, length, map, filter, Option, Some, None, refl, sym, ap, ap₂, subst, ◌∙◌, unwrap_or, append_assoc, length-append, arith}
use Rattle.std.specs.Prelude.{is_some, flat_map, get_or}
use Rattle.std.specs.Option.{option_map}
use Rattle.std.specs.List.{cons_option}
use Rattle.std.proofs.lemmas.List.{length-map, map-append}
use Rattle.std.proofs.lemmas.List.Elements.{filter_agree}
use Rattle.std.proofs.lemmas.Option.{unwrap_or-slice_get}
use Rattle.std.proofs.Math.Seq.{get_or-append_seam}
use Rattle.search_base.specs.declared.cost_key.CostKey.{CostKey}
use Rattle.search_base.specs.declared.rule.Rule.{Rule}
use Rattle.search_base.specs.declared.rule.Rule.TheVariants.{Words}
use Rattle.search_base.specs.CostOrder.{before}
use Rattle.search_base.specs.GraphView.{GraphView}
use Rattle.search_base.specs.Hits as base
use Rattle.search_base.specs.Hits.{Match, numbers}
use Rattle.search_base.specs.RowsView.{RowsView}
use Rattle.search_base.specs.Tuple.{cost_of, entry}
use Rattle.bucket_sort.specs.Hits.{costs, hits_of as hits_by}
use Rattle.rule_buckets.specs.Entries.{entry_of, entry_at, is_match}
use Rattle.rule_buckets.specs.Rules.{RulesView}
use Rattle.bucket_sort.specs.Trace.{trace}
use Rattle.rule_buckets.specs.declared.hits.HitWindow.{HitWindow}
use Rattle.rule_buckets.specs.Matches.{match_at, matches_among, matches_in, ids_of, hits_of, opened, opened_in}

-- ---- a slice of things of any kind is the slice of what stands for them

filter-map : {A B : Type 0} (p : B → Bool) (f : A → B) (xs : List A) → filter p (map f xs) ≡ map f (filter (λ x. p (f x)) xs)
filter-map p f [] = refl
filter-map p f (x ∷ xs) = by (p (f x)) (filter-map p f xs)
  where
    by : (b : Bool) → filter p (map f xs) ≡ map f (filter (λ y. p (f y)) xs)
        → cond b (f x ∷ filter p (map f xs)) (filter p (map f xs)) ≡ map f (cond b (x ∷ filter (λ y. p (f y)) xs) (filter (λ y. p (f y)) xs))
    by true rest = ap (λ ys. f x ∷ ys) rest
    by false rest = rest

module _ {A : Type 0} (f : A → Match) where
  cost-of : A → List CostKey
  cost-of x = (f x).costs

  place-same : (xs : List A) (x : A)
      → base.place_among before (λ (m : Match). m.costs) (λ (m : Match). m.id) (map f xs) (f x) ≡ base.place_among before (λ (y : A). (f y).costs) (λ (y : A). (f y).id) xs x
  place-same xs x =
      ap length (filter-map (λ other. base.stands_before before (λ (m : Match). m.costs) (λ (m : Match). m.id) other (f x)) f xs)
      ∙ length-map (filter (λ y. base.stands_before before (λ (y : A). (f y).costs) (λ (y : A). (f y).id) y x) xs) f

  hit-same : (xs : List A) (k : ℕ)
      → base.hit_at before (λ (m : Match). m.costs) (λ (m : Match). m.id) (map f xs) k ≡ map f (base.hit_at before (λ (y : A). (f y).costs) (λ (y : A). (f y).id) xs k)
  hit-same xs k =
      filter-map (λ m. base.place_among before (λ (m : Match). m.costs) (λ (m : Match). m.id) (map f xs) m == k) f xs
      ∙ ap (map f) (filter_agree (λ x. base.place_among before (λ (m : Match). m.costs) (λ (m : Match). m.id) (map f xs) (f x) == k)
      (λ x. base.place_among before (λ (y : A). (f y).costs) (λ (y : A). (f y).id) xs x == k) (λ x. ap (λ n. n == k) (place-same xs x)) xs)

  slice-same : (xs : List A) (offset limit : ℕ)
      → hits_of (map f xs) offset limit ≡ map f (base.hits_of before (λ (y : A). (f y).costs) (λ (y : A). (f y).id) xs offset limit)
  slice-same xs offset limit = over (numbers offset limit)
    where
      over : (ks : List ℕ) → flat_map (base.hit_at before (λ (m : Match). m.costs) (λ (m : Match). m.id) (map f xs)) ks
          ≡ map f (flat_map (base.hit_at before (λ (y : A). (f y).costs) (λ (y : A). (f y).id) xs) ks)
      over [] = refl
      over (k ∷ ks) =
          ap (λ ys. ys ++ flat_map (base.hit_at before (λ (m : Match). m.costs) (λ (m : Match). m.id) (map f xs)) ks) (hit-same xs k)
          ∙ ap (λ ys. map f (base.hit_at before (λ (y : A). (f y).costs) (λ (y : A). (f y).id) xs k) ++ ys) (over ks)
          ∙ sym (map-append f (base.hit_at before (λ (y : A). (f y).costs) (λ (y : A). (f y).id) xs k) (flat_map (base.hit_at before (λ (y : A). (f y).costs) (λ (y : A). (f y).id) xs) ks))

-- ---- the entries of a document that matches are its costs

costs-listed : (h : Rule → CostKey) (front rules : List Rule) (d : ℕ)
    → costs before (λ level (_ : ℕ). h (get_or (front ++ rules) level Words)) (length rules) (length front) d ≡ map h rules
costs-listed h front [] d = refl
costs-listed h front (rule ∷ rules) d =
    ap (λ r. h r ∷ costs before (by (front ++ rule ∷ rules)) (length rules) (suc (length front)) d) (get_or-append_seam front rule rules Words)
    ∙ ap (λ ys. h rule ∷ ys) (ap (λ all. costs before (by all) (length rules) (suc (length front)) d) (sym (append_assoc front (rule ∷ []) rules))
    ∙ ap (λ n. costs before (by ((front ++ rule ∷ []) ++ rules)) (length rules) n d) longer ∙ costs-listed h (front ++ rule ∷ []) rules d)
  where
    by : List Rule → ℕ → ℕ → CostKey
    by all level e = h (get_or all level Words)

    longer : suc (length front) ≡ length (front ++ rule ∷ [])
    longer = let e = length-append front (rule ∷ []) in omega (arith, e)

module _ (rows : ℕ → RowsView) (query : GraphView) (rules : List Rule) where
  -- a document with its entries
  abbrev pub ranked : ℕ → Match
  ranked d = match_at d (costs before (λ level e. entry_at (rows e) query rules level) (length rules) 0 d)

  pub entries-listed : (d : ℕ) → costs before (λ level e. entry_at (rows e) query rules level) (length rules) 0 d ≡ map (entry_of (rows d) query) rules
  entries-listed d = at-levels (length rules) 0 ∙ costs-listed (entry_of (rows d) query) [] rules d
    where
      at-levels : (n level : ℕ) → costs before (λ level e. entry_at (rows e) query rules level) n level d
          ≡ costs before (λ level (e : ℕ). entry_of (rows d) query (get_or rules level Words)) n level d
      at-levels zero level = refl
      at-levels (suc n) level =
          ap (λ r. entry_of (rows d) query r ∷ costs before (λ level e. entry_at (rows e) query rules level) n (suc level) d) (unwrap_or-slice_get rules level Words)
          ∙ ap (λ ys. entry_of (rows d) query (get_or rules level Words) ∷ ys) (at-levels n (suc level))

  -- the matches are the documents that match, each with its entries
  pub matches-ranked : (ids : List ℕ) → matches_among rows query rules ids ≡ map ranked (filter (λ d. is_match (rows d) query) ids)
  matches-ranked [] = refl
  matches-ranked (d ∷ ids) = by (cost_of (rows d).places query.levels) refl (matches-ranked ids)
    where
      by : (o : Option ℕ) → o ≡ cost_of (rows d).places query.levels → matches_among rows query rules ids ≡ map ranked (filter (λ d. is_match (rows d) query) ids)
          → cons_option (option_map (match_at d) (option_map (λ level. map (entry (rows d) query level) rules) o)) (matches_among rows query rules ids)
          ≡ map ranked (cond (is_some o) (d ∷ filter (λ d. is_match (rows d) query) ids) (filter (λ d. is_match (rows d) query) ids))
      by None e rest = rest
      by (Some level) e rest = ap (λ cs. match_at d cs ∷ matches_among rows query rules ids)
          (ap (λ o. map (entry (rows d) query (unwrap_or o (length query.levels))) rules) e ∙ sym (entries-listed d))
          ∙ ap (λ ys. ranked d ∷ ys) rest

  pub matching-ids : (ids : List ℕ) → filter (λ d. is_match (rows d) query) ids ≡ ids_of (matches_among rows query rules ids)
  matching-ids ids = sym (ap ids_of (matches-ranked ids) ∙ ids-ranked (filter (λ d. is_match (rows d) query) ids))
    where
      ids-ranked : (ds : List ℕ) → ids_of (map ranked ds) ≡ ds
      ids-ranked [] = refl
      ids-ranked (d ∷ ds) = ap (λ ys. d ∷ ys) (ids-ranked ds)

  pub hits-ids : (ids : List ℕ) (offset limit : ℕ)
      → hits_by before (λ level e. entry_at (rows e) query rules level) (length rules) (filter (λ d. is_match (rows d) query) ids) offset limit
      ≡ ids_of (hits_of (matches_among rows query rules ids) offset limit)
  hits-ids ids offset limit =
      sym (ap (λ ms. ids_of (hits_of ms offset limit)) (matches-ranked ids) ∙ ap ids_of (slice-same ranked (filter (λ d. is_match (rows d) query) ids) offset limit)
      ∙ ids-ranked (hits_by before (λ level e. entry_at (rows e) query rules level) (length rules) (filter (λ d. is_match (rows d) query) ids) offset limit))
    where
      ids-ranked : (ds : List ℕ) → ids_of (map ranked ds) ≡ ds
      ids-ranked [] = refl
      ids-ranked (d ∷ ds) = ap (λ ys. d ∷ ys) (ids-ranked ds)

  -- the same of the documents that match, as they are listed
  pub matching-hits : (ids : List ℕ) (offset limit : ℕ)
      → hits_by before (λ level e. entry_at (rows e) query rules level) (length rules) (ids_of (matches_among rows query rules ids)) offset limit
      ≡ ids_of (hits_of (matches_among rows query rules ids) offset limit)
  matching-hits ids offset limit =
      ap (λ ds. hits_by before (λ level e. entry_at (rows e) query rules level) (length rules) ds offset limit) (sym (matching-ids ids)) ∙ hits-ids ids offset limit

  pub ids-length : (ids : List ℕ) → length (ids_of (matches_among rows query rules ids)) ≡ length (matches_among rows query rules ids)
  ids-length ids = length-map (matches_among rows query rules ids) (λ (m : Match). m.id)

-- ---- the hits of rules

module _ {S : Type 0} (rows : S → ℕ → RowsView) where
  ranked-in : (over : RulesView S) (ids : List ℕ) → map (λ d. match_at d (map (entry_of (rows over.source d) over.graph) over.rules)) ids
      ≡ map (ranked (rows over.source) over.graph over.rules) ids
  ranked-in over [] = refl
  ranked-in over (d ∷ ids) =
      ap₂ (λ costs rest. match_at d costs ∷ rest) (sym (entries-listed (rows over.source) over.graph over.rules d)) (ranked-in over ids)

  ids-ranked : (over : RulesView S) (ids : List ℕ) → ids_of (map (ranked (rows over.source) over.graph over.rules) ids) ≡ ids
  ids-ranked over [] = refl
  ids-ranked over (d ∷ ids) = ap (λ ys. d ∷ ys) (ids-ranked over ids)

  -- the slice of the documents by their entries is that of their matches
  pub hits-in : (over : RulesView S) (offset limit : ℕ)
      → hits_by before (λ level d. entry_at (rows over.source d) over.graph over.rules level) (length over.rules) over.matching offset limit
      ≡ ids_of (hits_of (matches_in rows over) offset limit)
  hits-in over offset limit =
      sym (ap (λ ms. ids_of (hits_of ms offset limit)) (ranked-in over over.matching)
      ∙ ap ids_of (slice-same (ranked (rows over.source) over.graph over.rules) over.matching offset limit)
      ∙ ids-ranked over (hits_by before (λ level d. entry_at (rows over.source d) over.graph over.rules level) (length over.rules) over.matching offset limit))

-- ---- rules that are made of these parts

-- rules over the documents of a universe that match
pub record AreMade {S : Type 0} (rows : S → ℕ → RowsView) (made : RulesView S) (source : S) (graph : GraphView) (rules : List Rule)
    (universe : List ℕ) : Type 0 where
  pub source_is : made.source ≡ source
  pub graph_is : made.graph ≡ graph
  pub rules_are : made.rules ≡ rules
  pub matching_is : made.matching ≡ filter (λ d. is_match (rows source d) graph) universe

module _ {S : Type 0} (rows : S → ℕ → RowsView) (made : RulesView S) (source : S) (graph : GraphView) (rules : List Rule) (universe : List ℕ)
    (are : AreMade rows made source graph rules universe) where
  all-parts : made ≡ record { source = source; graph = graph; rules = rules; matching = filter (λ d. is_match (rows source d) graph) universe }
  all-parts =
      subst (λ (x : S). made ≡ record { source = x; graph = graph; rules = rules; matching = filter (λ d. is_match (rows source d) graph) universe }) are.source_is
      (subst (λ (y : GraphView). made ≡ record { source = made.source; graph = y; rules = rules; matching = filter (λ d. is_match (rows source d) graph) universe }) are.graph_is
      (subst (λ (z : List Rule). made ≡ record { source = made.source; graph = made.graph; rules = z; matching = filter (λ d. is_match (rows source d) graph) universe }) are.rules_are
      (subst (λ (w : List ℕ). made ≡ record { source = made.source; graph = made.graph; rules = made.rules; matching = w }) are.matching_is refl)))

  -- their matches are those among the universe
  pub made-matches : matches_in rows made ≡ matches_among (rows source) graph rules universe
  made-matches =
      ap (matches_in rows) all-parts
      ∙ ranked-in rows (record { source = source; graph = graph; rules = rules; matching = [] }) (filter (λ d. is_match (rows source d) graph) universe)
      ∙ sym (matches-ranked (rows source) graph rules universe)

  pub made-matching : made.matching ≡ ids_of (matches_among (rows source) graph rules universe)
  made-matching = are.matching_is ∙ matching-ids (rows source) graph rules universe

  pub made-opened : (window : HitWindow) → opened_in rows made window ≡ opened (rows source) graph rules universe window.offset window.limit
  made-opened window =
      ap (λ over. opened_in rows over window) all-parts
      ∙ ap (λ ids. trace before (λ level d. entry_at (rows source d) graph rules level) (length rules) ids window.offset (window.offset + window.limit))
      (matching-ids (rows source) graph rules universe)
