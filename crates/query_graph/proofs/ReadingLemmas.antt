-- The paths of a level are the readings of the items that it keeps.
use Rattle.std.proofs.Common.{◌≡◌, ◌∙◌, ℕ, zero, suc, ◌+◌, ◌-◌, ◌<◌, ◌≤◌, ◌==◌, true, false, cond, List, [], ◌∷◌, ◌++◌, length, take, drop, map, flat_map, min, refl, sym, ap, subst, ◌⊎◌, inl, inr, arith, append_assoc, append-nil, length-append, length-take, take-append-drop, length-drop}
use Rattle.std.specs.List.{AllByRecursion, slice_range}
use Rattle.std.proofs.lemmas.Grind.{flat_map-append}
use Rattle.std.proofs.lemmas.List.{drop_more, take_all}
use Rattle.search_base.specs.declared.query.Block.{Block}
use Rattle.search_base.specs.declared.query.PlacedBlock.{PlacedBlock}
use Rattle.search_base.specs.declared.query.Strategy.{Strategy}
use Rattle.search_base.specs.GraphView.{LevelView}
use Rattle.search_base.specs.Hits.{numbers}
use Rattle.search_base.specs.Readings.{readings, readings_from, blocks_from as begin_at}
use Rattle.synonym_terms.specs.SynonymRowView.{SynonymRowView}
use Rattle.query_graph.specs.ItemView.{ItemView}
use Rattle.query_graph.specs.ItemReadings.{choices, begun_by, readings_of}
use Rattle.query_graph.specs.Levels.{levels}
use Rattle.query_graph.specs.Graph.{most_joined, placed_at, placed_choices, blocks_at, blocks_from, level_of, HaveReadings}

-- ---- the blocks that begin at a place

abbrev IsFrom : ℕ → PlacedBlock → Type 0
IsFrom at placed = placed.from ≡ at

-- blocks from another place do not begin here
pass : (k at : ℕ) → (at == k) ≡ false → (blocks more : List PlacedBlock) → AllByRecursion (IsFrom at) blocks → begin_at (blocks ++ more) k ≡ begin_at more k
pass k at other [] more from = refl
pass k at other (block ∷ blocks) more from =
    let here : (block.from == k) ≡ false = ap (λ n. n == k) from.0 ∙ other in
    ap (λ b. cond b (block ∷ begin_at (blocks ++ more) k) (begin_at (blocks ++ more) k)) here ∙ pass k at other blocks more from.1

-- blocks from this place do
take_in : (at : ℕ) (blocks more : List PlacedBlock) → AllByRecursion (IsFrom at) blocks → begin_at (blocks ++ more) at ≡ blocks ++ begin_at more at
take_in at [] more from = refl
take_in at (block ∷ blocks) more from =
    let same : (at == at) ≡ true = grind arith in
    let here : (block.from == at) ≡ true = ap (λ n. n == at) from.0 ∙ same in
    ap (λ b. cond b (block ∷ begin_at (blocks ++ more) at) (begin_at (blocks ++ more) at)) here ∙ ap (λ (found : List PlacedBlock). block ∷ found) (take_in at blocks more from.1)

module _ (rows : List SynonymRowView) where
  choices_from : (at n : ℕ) (blocks : List Block) (more : List PlacedBlock) → AllByRecursion (IsFrom at) more → AllByRecursion (IsFrom at) (map (placed_at at n) blocks ++ more)
  choices_from at n [] more rest = rest
  choices_from at n (block ∷ blocks) more rest = (refl, choices_from at n blocks more rest)

  spans_from : (at : ℕ) (items : List ItemView) (j n : ℕ) → AllByRecursion (IsFrom at) (flat_map (placed_choices rows at items) (numbers j n))
  spans_from at items j zero = tt
  spans_from at items j (suc n) = choices_from at j (choices rows (take j items)) (flat_map (placed_choices rows at items) (numbers (suc j) n)) (spans_from at items (suc j) n)

  blocks_at_from : (at : ℕ) (items : List ItemView) → AllByRecursion (IsFrom at) (blocks_at rows at items)
  blocks_at_from at items = spans_from at items 1 (min (length items) most_joined)

  differs : (at k : ℕ) → k < at ⊎ at < k → (at == k) ≡ false
  differs at k (inl h) = grind arith
  differs at k (inr h) = grind arith

  none_before : (k at : ℕ) (items : List ItemView) → k < at → begin_at (blocks_from rows at items) k ≡ []
  none_before k at [] h = refl
  none_before k at (item ∷ items) h =
      pass k at (differs at k (inl h)) (blocks_at rows at (item ∷ items)) (blocks_from rows (at + 1) items) (blocks_at_from at (item ∷ items))
      ∙ none_before k (at + 1) items (omega arith)

  begin_first : (at : ℕ) (item : ItemView) (rest : List ItemView) → begin_at (blocks_from rows at (item ∷ rest)) at ≡ blocks_at rows at (item ∷ rest)
  begin_first at item rest =
      take_in at (blocks_at rows at (item ∷ rest)) (blocks_from rows (at + 1) rest) (blocks_at_from at (item ∷ rest))
      ∙ ap (λ (found : List PlacedBlock). blocks_at rows at (item ∷ rest) ++ found) (none_before at (at + 1) rest (omega arith))
      ∙ append-nil (blocks_at rows at (item ∷ rest))

  -- the blocks that begin at a place are those of the items behind it
  begin_here : (k at : ℕ) (front : List ItemView) (item : ItemView) (rest : List ItemView) → at + length front ≡ k
      → begin_at (blocks_from rows at (front ++ item ∷ rest)) k ≡ blocks_at rows k (item ∷ rest)
  begin_here k at [] item rest e =
      let same : at ≡ k = omega arith in
      subst (λ (n : ℕ). begin_at (blocks_from rows at (item ∷ rest)) n ≡ blocks_at rows n (item ∷ rest)) same (begin_first at item rest)
  begin_here k at (first ∷ front) item rest e =
      pass k at (differs at k (inr (omega arith))) (blocks_at rows at (first ∷ (front ++ item ∷ rest))) (blocks_from rows (at + 1) (front ++ item ∷ rest)) (blocks_at_from at (first ∷ (front ++ item ∷ rest)))
      ∙ begin_here k (at + 1) front item rest (omega arith)

  -- ---- the readings from a place

  abbrev further : (ℕ → List (List Block)) → PlacedBlock → List (List Block)
  further onward placed = map (λ (reading : List Block). placed.block ∷ reading) (onward placed.to)

  -- those that begin with one of the blocks of n items, where those that go on are known
  go_on : (onward : ℕ → List (List Block)) (at n : ℕ) (more : List (List Block)) → onward (at + n) ≡ more → (blocks : List Block)
      → flat_map (further onward) (map (placed_at at n) blocks) ≡ begun_by blocks more
  go_on onward at n more e [] = refl
  go_on onward at n more e (block ∷ blocks) =
      ap (λ (found : List (List Block)). map (λ (reading : List Block). block ∷ reading) found ++ flat_map (further onward) (map (placed_at at n) blocks)) e
      ∙ ap (λ (found : List (List Block)). map (λ (reading : List Block). block ∷ reading) more ++ found) (go_on onward at n more e blocks)

  at_end : (k n : ℕ) (more : List (List Block)) → k ≡ n → cond (k == n) ([] ∷ []) more ≡ [] ∷ []
  at_end k n more e = let same : (k == n) ≡ true = grind arith in rw same refl

  not_at_end : (k n : ℕ) (more : List (List Block)) → k < n → cond (k == n) ([] ∷ []) more ≡ more
  not_at_end k n more h = rw (differs k n (inr h)) refl

  -- the readings that begin with a block of the first n items
  abbrev pub first_read : List ItemView → ℕ → List (List Block)
  first_read items n = begun_by (choices rows (take n items)) (readings_of rows (drop n items))

  spans_read : (onward : ℕ → List (List Block)) (at : ℕ) (items : List ItemView) (j n : ℕ)
      → ((i : ℕ) → j ≤ i → i < j + n → onward (at + i) ≡ readings_of rows (drop i items))
      → flat_map (further onward) (flat_map (placed_choices rows at items) (numbers j n)) ≡ flat_map (first_read items) (numbers j n)
  spans_read onward at items j zero known = refl
  spans_read onward at items j (suc n) known =
      flat_map-append (further onward) (placed_choices rows at items j) (flat_map (placed_choices rows at items) (numbers (suc j) n))
      ∙ ap (λ (found : List (List Block)). found ++ flat_map (further onward) (flat_map (placed_choices rows at items) (numbers (suc j) n)))
      (go_on onward at j (readings_of rows (drop j items)) (known j (omega arith) (omega arith)) (choices rows (take j items)))
      ∙ ap (λ (found : List (List Block)). first_read items j ++ found) (spans_read onward at items (suc j) n (λ i low high. known i (omega arith) (omega arith)))

  -- the first one, two or three items are a block
  pub first_items_read : (item : ItemView) (rest : List ItemView) → flat_map (first_read (item ∷ rest)) (numbers 1 (min (length (item ∷ rest)) most_joined)) ≡ readings_of rows (item ∷ rest)
  first_items_read a [] = append-nil _
  first_items_read a (b ∷ []) = ap (λ (found : List (List Block)). first_read (a ∷ b ∷ []) 1 ++ found) (append-nil _)
  first_items_read a (b ∷ c ∷ items) =
      let three : min (length (a ∷ b ∷ c ∷ items)) most_joined ≡ 3 = omega arith in
      ap (λ n. flat_map (first_read (a ∷ b ∷ c ∷ items)) (numbers 1 n)) three
      ∙ ap (λ (found : List (List Block)). first_read (a ∷ b ∷ c ∷ items) 1 ++ (first_read (a ∷ b ∷ c ∷ items) 2 ++ found)) (append-nil _)

  -- the readings from a place on, of at most n blocks, are those of the items behind it
  abbrev Reads : ℕ → List ItemView → Type 0
  Reads n all =
      (front rest : List ItemView) → front ++ rest ≡ all → (k : ℕ) → length front ≡ k → length rest ≤ n → readings_from n (length all) (blocks_from rows 0 all) k ≡ readings_of rows rest

  reads_on : (n : ℕ) (front : List ItemView) (item : ItemView) (rest all : List ItemView) → Reads n all → front ++ item ∷ rest ≡ all → (k : ℕ) → length front ≡ k → length rest ≤ n
      → readings_from (suc n) (length all) (blocks_from rows 0 all) k ≡ readings_of rows (item ∷ rest)
  reads_on n front item rest all known e k here enough =
      not_at_end k (length all) _ (omega (arith, sym (length-append front (item ∷ rest)) ∙ ap length e))
      ∙ ap (flat_map (further onward)) begins
      ∙ spans_read onward k (item ∷ rest) 1 (min (length (item ∷ rest)) most_joined) behind
      ∙ first_items_read item rest
    where
      onward : ℕ → List (List Block)
      onward at = readings_from n (length all) (blocks_from rows 0 all) at

      begins : begin_at (blocks_from rows 0 all) k ≡ blocks_at rows k (item ∷ rest)
      begins = subst (λ (list : List ItemView). begin_at (blocks_from rows 0 list) k ≡ blocks_at rows k (item ∷ rest)) e (begin_here k 0 front item rest (omega arith))

      behind : (i : ℕ) → 1 ≤ i → i < 1 + min (length (item ∷ rest)) most_joined → onward (k + i) ≡ readings_of rows (drop i (item ∷ rest))
      behind i low high =
          let part = take i (item ∷ rest) in
          known (front ++ part) (drop i (item ∷ rest)) (append_assoc front part (drop i (item ∷ rest)) ∙ ap (λ (list : List ItemView). front ++ list) (take-append-drop i (item ∷ rest)) ∙ e) (k + i)
          (omega (arith, length-append front part, length-take i (item ∷ rest))) (omega (arith, length-drop i (item ∷ rest)))

  reads : (n : ℕ) (all : List ItemView) → Reads n all
  reads zero all front [] e k here enough = at_end k (length all) [] (sym here ∙ ap length (sym (append-nil front) ∙ e))
  reads zero all front (item ∷ rest) e k here enough = absurd (omega arith)
  reads (suc n) all front [] e k here enough = at_end k (length all) _ (sym here ∙ ap length (sym (append-nil front) ∙ e))
  reads (suc n) all front (item ∷ rest) e k here enough = reads_on n front item rest all (reads n all) e k here (omega arith)

  pub level_reads : (items : List ItemView) → readings (level_of rows items) ≡ readings_of rows items
  level_reads items = reads (length items) items [] items refl 0 refl (omega arith)

  levels_read : (lists : List (List ItemView)) → map readings (map (level_of rows) lists) ≡ map (readings_of rows) lists
  levels_read [] = refl
  levels_read (items ∷ lists) = let first = level_reads items in let later = levels_read lists in cc

  -- what the levels that are built read as
  pub built_reads : (strategy : Strategy) (items list : List ItemView) (graphs : List LevelView) → graphs ≡ map (level_of rows) (levels strategy list) → list ≡ items
      → map readings graphs ≡ map (readings_of rows) (levels strategy items)
  built_reads strategy items list graphs made same =
      ap (map readings) made ∙ levels_read (levels strategy list) ∙ ap (λ (xs : List ItemView). map (readings_of rows) (levels strategy xs)) same

  -- ---- the blocks from one more place on

  pub blocks_more : (kept : List ItemView) (blocks whole : List PlacedBlock) (from : ℕ) → from < length kept → blocks ++ blocks_from rows from (drop from kept) ≡ whole
      → (blocks ++ blocks_at rows from (slice_range kept from (length kept))) ++ blocks_from rows (from + 1) (drop (from + 1) kept) ≡ whole
  blocks_more kept blocks whole from h told =
      let d : ItemView = record { words = []; phrase = false; prefix = false } in
      let first = drop_more kept from d h in
      let behind = take_all (length kept - from) (drop from kept) (omega (arith, length-drop from kept)) in
      append_assoc blocks (blocks_at rows from (slice_range kept from (length kept))) _
      ∙ ap (λ (items : List ItemView). blocks ++ (blocks_at rows from items ++ blocks_from rows (from + 1) (drop (from + 1) kept))) (behind ∙ first)
      ∙ ap (λ (items : List ItemView). blocks ++ blocks_from rows from items) (sym first) ∙ told

-- lists of the same readings
pub have_readings : (levels : List LevelView) (all : List (List (List Block))) → map readings levels ≡ all → HaveReadings levels all
have_readings levels all e = subst (λ (list : List (List (List Block))). HaveReadings levels list) e (own levels)
  where
    own : (ls : List LevelView) → HaveReadings ls (map readings ls)
    own [] = tt
    own (level ∷ ls) = ((λ reading. ((λ h. h), (λ h. h))), own ls)
