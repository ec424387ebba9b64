-- What holds of each block of a query's graph.
use Rattle.std.proofs.Common.{◌≡◌, ℕ, zero, suc, ◌+◌, ◌<◌, ◌≤◌, Bool, true, false, cond, ◌||◌, List, [], ◌∷◌, length, take, map, filter, flat_map, min, refl, sym, ap, subst, arith, length-take, length-append}
use Rattle.std.specs.List.{AllByRecursion, list_any, list_all}
use Rattle.search_base.specs.declared.query.Block.{Block}
use Rattle.search_base.specs.declared.query.Kind.TheVariants.{Plain, Prefix, Phrase, Synonym}
use Rattle.search_base.specs.declared.query.Strategy.{Strategy}
use Rattle.search_base.specs.GraphView.{LevelView}
use Rattle.search_base.specs.Graphs.{IsTerm, IsPlaced, IsLevel, IsGraph}
use Rattle.search_base.specs.Hits.{numbers}
use Rattle.synonym_terms.specs.SynonymRowView.{SynonymRowView}
use Rattle.synonym_terms.specs.Synonyms.{HasTerm, terms_for, term_of}
use Rattle.query_graph.specs.ItemView.{ItemView}
use Rattle.query_graph.specs.Items.{IsItem, EndsWithPrefix, AreItems}
use Rattle.query_graph.specs.ItemReadings.{block_of, words_of, single, joined, written, synonyms, choices}
use Rattle.query_graph.specs.Levels.{is_word, kept, has_items, most_dropped, levels}
use Rattle.query_graph.specs.Graph.{most_joined, placed_at, placed_choices, blocks_at, blocks_from, level_of}
use Rattle.query_graph.proofs.ItemLemmas.{All-append, All-take}
use Rattle.query_graph.proofs.LevelLemmas.{some_items, kept_are, levels_from, levels_few, no_levels}

abbrev has_prefix : List ItemView → Bool
has_prefix part = list_any (λ item. item.prefix) part

-- a block that stands for these items
record IsChoice (part : List ItemView) (block : Block) : Type 0 where
  span : block.span ≡ length part
  term : IsTerm block.term
  prefix : block.term.prefix ≡ true → has_prefix part ≡ true

-- ---- the blocks of some items

module _ (rows : List SynonymRowView) (have : AllByRecursion HasTerm rows) where
  single_is : (item : ItemView) → IsItem item → AllByRecursion (IsChoice (item ∷ [])) (single item)
  single_is item is = by item.phrase refl
    where
      some : IsTerm (record { words = item.words; prefix = false })
      some = record { words = is.some; alone = λ e. absurd (cc) }

      prefixed : item.phrase ≡ false → (b : Bool) → item.prefix ≡ b → AllByRecursion (IsChoice (item ∷ [])) (cond b (block_of (item ∷ []) Prefix (record { words = item.words; prefix = true }) ∷ []) [])
      prefixed word true e = (record { span = refl; term = record { words = is.some; alone = λ _. is.one_word word }; prefix = λ _. ap (λ b. b || false) e }, tt)
      prefixed word false e = tt

      by : (b : Bool) → item.phrase ≡ b
          → AllByRecursion (IsChoice (item ∷ [])) (cond b (block_of (item ∷ []) Phrase (record { words = item.words; prefix = false }) ∷ [])
          (block_of (item ∷ []) Plain (record { words = item.words; prefix = false }) ∷ (cond item.prefix (block_of (item ∷ []) Prefix (record { words = item.words; prefix = true }) ∷ []) [])))
      by true e = (record { span = refl; term = some; prefix = λ h. absurd (cc) }, tt)
      by false e = (record { span = refl; term = some; prefix = λ h. absurd (cc) }, prefixed e item.prefix refl)

  written_are : (part : List ItemView) → AllByRecursion IsItem part → AllByRecursion (IsChoice part) (written part)
  written_are [] is = tt
  written_are (item ∷ []) is = single_is item is.0
  written_are (item ∷ next ∷ items) is =
      elim (list_all is_word (item ∷ next ∷ items)) as (λ b. AllByRecursion (IsChoice (item ∷ next ∷ items)) (cond b (joined (item ∷ next ∷ items) ∷ []) []))
      [ true ↦ (record { span = refl; term = record { words = omega arith; alone = λ _. refl }; prefix = λ h. h }, tt) | false ↦ tt ]

  terms_are : (part : List ItemView) (test : SynonymRowView → Bool) (list : List SynonymRowView) → AllByRecursion HasTerm list
      → AllByRecursion (IsChoice part) (map (block_of part Synonym) (map term_of (filter test list)))
  terms_are part test [] all = tt
  terms_are part test (row ∷ list) all =
      let first : IsChoice part (block_of part Synonym (term_of row)) = record { span = refl; term = record { words = all.0; alone = λ e. absurd (cc) }; prefix = λ h. absurd (cc) } in
      let rest = terms_are part test list all.1 in
      elim (test row) as (λ b. AllByRecursion (IsChoice part) (map (block_of part Synonym) (map term_of (cond b (row ∷ filter test list) (filter test list))))) [ true ↦ (first, rest) | false ↦ rest ]

  synonyms_are : (part : List ItemView) → AllByRecursion (IsChoice part) (synonyms rows part)
  synonyms_are part =
      elim (list_all is_word part) as (λ b. AllByRecursion (IsChoice part) (cond b (map (block_of part Synonym) (terms_for rows (words_of part))) []))
      [ true ↦ terms_are part _ rows have | false ↦ tt ]

  choices_are : (part : List ItemView) → AllByRecursion IsItem part → AllByRecursion (IsChoice part) (choices rows part)
  choices_are part is = All-append (IsChoice part) (written part) (synonyms rows part) (written_are part is) (synonyms_are part)

  -- ---- where they are placed

  -- the prefix word is among the first n items where these are all
  prefix_last : (n : ℕ) (items : List ItemView) → EndsWithPrefix items → has_prefix (take n items) ≡ true → n ≤ length items → n ≡ length items
  prefix_last zero items ends has le = absurd (cc)
  prefix_last (suc n) [] ends has le = absurd (omega arith)
  prefix_last (suc n) (item ∷ items) ends has le = by (λ h. prefix_last n items ends.1 h (omega (arith, le))) item.prefix refl has
    where
      by : (has_prefix (take n items) ≡ true → n ≡ length items) → (b : Bool) → item.prefix ≡ b → (b || has_prefix (take n items)) ≡ true → suc n ≡ suc (length items)
      by later true e h = let none : length items ≡ 0 = ap length (ends.0 e) in omega (arith, le)
      by later false e h = ap suc (later h)

  placed_all : (last from n : ℕ) (items : List ItemView) → 0 < n → n ≤ length items → from + length items ≡ last → EndsWithPrefix items
      → (blocks : List Block) → AllByRecursion (IsChoice (take n items)) blocks → AllByRecursion (IsPlaced last) (map (placed_at from n) blocks)
  placed_all last from n items some le e ends [] are = tt
  placed_all last from n items some le e ends (block ∷ blocks) are =
      let count = length-take n items in (
        record {
          forward = omega arith;
          within = omega arith;
          span = omega (arith, are.0.span, count);
          term = are.0.term;
          last = λ h. let whole = prefix_last n items ends (are.0.prefix h) le in omega arith;
        },
        placed_all last from n items some le e ends blocks are.1,
      )

  spans_placed : (last from : ℕ) (items : List ItemView) → from + length items ≡ last → EndsWithPrefix items → AllByRecursion IsItem items
      → (j n : ℕ) → 0 < j → j + n ≤ suc (length items) → AllByRecursion (IsPlaced last) (flat_map (placed_choices rows from items) (numbers j n))
  spans_placed last from items e ends is j zero some le = tt
  spans_placed last from items e ends is j (suc n) some le =
      All-append (IsPlaced last) (placed_choices rows from items j) (flat_map (placed_choices rows from items) (numbers (suc j) n))
      (placed_all last from j items some (omega arith) e ends (choices rows (take j items)) (choices_are (take j items) (All-take IsItem j items is)))
      (spans_placed last from items e ends is (suc j) n (omega arith) (omega arith))

  blocks_placed : (last from : ℕ) (items : List ItemView) → from + length items ≡ last → EndsWithPrefix items → AllByRecursion IsItem items → AllByRecursion (IsPlaced last) (blocks_from rows from items)
  blocks_placed last from [] e ends is = tt
  blocks_placed last from (item ∷ items) e ends is =
      All-append (IsPlaced last) (blocks_at rows from (item ∷ items)) (blocks_from rows (from + 1) items)
      (spans_placed last from (item ∷ items) e ends is 1 (min (length (item ∷ items)) most_joined) (omega arith) (omega arith))
      (blocks_placed last (from + 1) items (omega arith) ends.1 is.1)

  -- ---- levels and graphs

  is_level : (items : List ItemView) → AreItems items → has_items items ≡ true → IsLevel (level_of rows items)
  is_level items are some = record { some = some_items items some; few = are.few; placed = blocks_placed (length items) 0 items (omega arith) are.prefix are.each }

  All-map : (lists : List (List ItemView)) → AllByRecursion (λ items. IsLevel (level_of rows items)) lists → AllByRecursion IsLevel (map (level_of rows) lists)
  All-map [] h = tt
  All-map (items ∷ lists) h = (h.0, All-map lists h.1)

  length-levels : (lists : List (List ItemView)) → length (map (level_of rows) lists) ≡ length lists
  length-levels [] = refl
  length-levels (items ∷ lists) = ap suc (length-levels lists)

  some_words : (strategy : Strategy) (items : List ItemView) → AreItems items → 0 < length (map (level_of rows) (levels strategy items)) → 0 < length (words_of items)
  some_words strategy [] are h = let none = ap (λ (lists : List (List ItemView)). length (map (level_of rows) lists)) (no_levels strategy) in absurd (omega arith)
  some_words strategy (item ∷ items) are h = omega (arith, are.each.0.some, length-append item.words (words_of items))

  -- the graph of some items is as each graph is to be
  graph_is_sound : (strategy : Strategy) (items : List ItemView) → AreItems items
      → IsGraph (record { levels = map (level_of rows) (levels strategy items); whole = words_of items })
  graph_is_sound strategy items are = record {
    few = omega (arith, length-levels (levels strategy items), levels_few strategy items are);
    levels = All-map (levels strategy items) (levels_from (λ list. IsLevel (level_of rows list)) items (λ j some. is_level (kept j items) (kept_are j items are) some) 0 (suc (most_dropped strategy items)));
    whole = some_words strategy items are;
  }

  pub built_sound : (strategy : Strategy) (items list : List ItemView) (graphs : List LevelView) (whole : List (List ℕ))
      → graphs ≡ map (level_of rows) (levels strategy list) → whole ≡ words_of list → list ≡ items → AreItems items → IsGraph (record { levels = graphs; whole = whole })
  built_sound strategy items list graphs whole made words same are =
      let both : IsGraph (record { levels = map (level_of rows) (levels strategy list); whole = words_of list }) = graph_is_sound strategy list (subst AreItems (sym same) are) in
      subst (λ (gs : List LevelView). IsGraph (record { levels = gs; whole = whole })) (sym made)
      (subst (λ (ws : List (List ℕ)). IsGraph (record { levels = map (level_of rows) (levels strategy list); whole = ws })) (sym words) both)
