-- The blocks of a level have the terms of its readings: each block is in a reading, and each reading is of blocks.
use Rattle.std.proofs.Common.{◌≡◌, ◌∙◌, ℕ, zero, suc, ◌+◌, ◌<◌, inl, inr, true, false, cond, List, [], ◌∷◌, length, take, drop, map, min, refl, sym, ap, subst, arith}
use Rattle.search_base.specs.declared.query.Block.{Block}
use Rattle.search_base.specs.declared.query.Kind.TheVariants.{Plain, Prefix, Phrase}
use Rattle.search_base.specs.declared.query.PlacedBlock.{PlacedBlock}
use Rattle.search_base.specs.declared.query.Strategy.{Strategy}
use Rattle.search_base.specs.GraphView.{LevelView}
use Rattle.search_base.specs.Hits.{numbers}
use Rattle.search_base.specs.TermView.{TermView}
use Rattle.search_base.specs.Terms.{terms_read, terms_among, terms_placed, HaveSame}
use Rattle.search_base.proofs.Members.{Among, Contains-from_among, Among-from_contains, Among-append, Among-append_left, Among-append_right, Among-map, Among-mapped, Among-flat_map, Among-flat_mapped}
use Rattle.synonym_terms.specs.SynonymRowView.{SynonymRowView}
use Rattle.query_graph.specs.ItemView.{ItemView}
use Rattle.query_graph.specs.ItemReadings.{single, choices, synonyms, begun_by, readings_of, block_of, term_of}
use Rattle.query_graph.specs.Levels.{levels}
use Rattle.query_graph.specs.Graph.{most_joined, placed_at, placed_choices, blocks_at, blocks_from, level_of}
use Rattle.query_graph.proofs.ReadingLemmas.{first_read, first_items_read}

-- the number is among the first numbers from it on
first_number : (j n : ℕ) → 0 < n → Among (numbers j n) j
first_number j zero h = absurd (omega arith)
first_number j (suc n) h = inl refl

-- the tail of a list
abbrev tail : List Block → List Block
tail [] = []
tail (block ∷ blocks) = blocks

-- a block that an item has as it is written
abbrev own : ItemView → Block
own item = cond item.phrase (block_of (item ∷ []) Phrase (term_of false item.words)) (block_of (item ∷ []) Plain (term_of false item.words))

has_own : (item : ItemView) → Among (single item) (own item)
has_own item =
    let phrase = block_of (item ∷ []) Phrase (term_of false item.words) in
    let plain = block_of (item ∷ []) Plain (term_of false item.words) in
    let more = cond item.prefix (block_of (item ∷ []) Prefix (term_of true item.words) ∷ []) [] in
    elim item.phrase as (λ b. Among (cond b (phrase ∷ []) (plain ∷ more)) (cond b phrase plain)) [ true ↦ inl refl | false ↦ inl refl ]

-- a reading that begins with one of the blocks
begun : (blocks : List Block) (onward : List (List Block)) (block : Block) (reading : List Block) → Among blocks block → Among onward reading → Among (begun_by blocks onward) (block ∷ reading)
begun blocks onward block reading h rest =
    Among-flat_mapped (λ first. map (λ (later : List Block). first ∷ later) onward) blocks block (block ∷ reading) h (Among-mapped (λ (later : List Block). block ∷ later) onward reading rest)

module _ (rows : List SynonymRowView) where
  -- where the first n items are a block
  begins : (item : ItemView) (rest : List ItemView) (n : ℕ) (reading : List Block) → Among (numbers 1 (min (length (item ∷ rest)) most_joined)) n → Among (first_read rows (item ∷ rest) n) reading
      → Among (readings_of rows (item ∷ rest)) reading
  begins item rest n reading within h =
      subst (λ (all : List (List Block)). Among all reading) (first_items_read rows item rest)
      (Among-flat_mapped (first_read rows (item ∷ rest)) (numbers 1 (min (length (item ∷ rest)) most_joined)) n reading within h)

  -- a reading of the later items goes on behind the first item
  goes_on : (item : ItemView) (rest : List ItemView) (reading : List Block) → Among (readings_of rows rest) reading → Among (readings_of rows (item ∷ rest)) (own item ∷ reading)
  goes_on item rest reading h =
      begins item rest 1 (own item ∷ reading) (first_number 1 (min (length (item ∷ rest)) most_joined) (omega arith))
      (begun (choices rows (item ∷ [])) (readings_of rows rest) (own item) reading (Among-append_left (single item) (synonyms rows (item ∷ [])) (own item) (has_own item)) h)

  -- there is a reading
  one_reading : (items : List ItemView) → (reading : List Block) × Among (readings_of rows items) reading
  one_reading [] = ([], inl refl)
  one_reading (item ∷ rest) = let later = one_reading rest in (own item ∷ later.0, goes_on item rest later.0 later.1)

  -- each block is in a reading
  is_read : (at : ℕ) (items : List ItemView) (placed : PlacedBlock) → Among (blocks_from rows at items) placed → (reading : List Block) × Among (readings_of rows items) reading × Among reading placed.block
  is_read at [] placed h = absurd h
  is_read at (item ∷ rest) placed h = elim (Among-append (blocks_at rows at (item ∷ rest)) (blocks_from rows (at + 1) rest) placed h) [
    | inl here ↦
        let spans = numbers 1 (min (length (item ∷ rest)) most_joined) in
        let found = Among-flat_map (placed_choices rows at (item ∷ rest)) spans placed here in
        let n = found.0 in
        let made = Among-map (placed_at at n) (choices rows (take n (item ∷ rest))) placed found.2 in
        let later = one_reading (drop n (item ∷ rest)) in (
          made.0 ∷ later.0,
          begins item rest n (made.0 ∷ later.0) found.1 (begun (choices rows (take n (item ∷ rest))) (readings_of rows (drop n (item ∷ rest))) made.0 later.0 made.1 later.1),
          inl (ap (λ (p : PlacedBlock). p.block) made.2),
        )
    | inr later ↦
        let found = is_read (at + 1) rest placed later in
        (own item ∷ found.0, goes_on item rest found.0 found.1, inr found.2)
  ]

  -- the blocks behind some items are blocks of all
  behind : (n at : ℕ) (items : List ItemView) (placed : PlacedBlock) → Among (blocks_from rows (at + n) (drop n items)) placed → Among (blocks_from rows at items) placed
  behind zero at items placed h = let same : at + 0 ≡ at = omega arith in subst (λ (k : ℕ). Among (blocks_from rows k items) placed) same h
  behind (suc n) at [] placed h = absurd h
  behind (suc n) at (item ∷ rest) placed h =
      let same : at + suc n ≡ (at + 1) + n = omega arith in
      Among-append_right (blocks_at rows at (item ∷ rest)) (blocks_from rows (at + 1) rest) placed
      (behind n (at + 1) rest placed (subst (λ (k : ℕ). Among (blocks_from rows k (drop n rest)) placed) same h))

  -- each block of a reading is placed
  is_placed : (reading : List Block) (at : ℕ) (items : List ItemView) (block : Block) → Among (readings_of rows items) reading → Among reading block
      → (placed : PlacedBlock) × Among (blocks_from rows at items) placed × (placed.block ≡ block)
  is_placed [] at items block h among = absurd among
  is_placed (first ∷ later) at [] block (inl same) among = absurd (cc)
  is_placed (first ∷ later) at [] block (inr more) among = absurd more
  is_placed (first ∷ later) at (item ∷ rest) block h among =
      let all = item ∷ rest in
      let spans = numbers 1 (min (length all) most_joined) in
      let found = Among-flat_map (first_read rows all) spans (first ∷ later) (subst (λ (list : List (List Block)). Among list (first ∷ later)) (sym (first_items_read rows item rest)) h) in
      let n = found.0 in
      let begin = Among-flat_map (λ (b : Block). map (λ (r : List Block). b ∷ r) (readings_of rows (drop n all))) (choices rows (take n all)) (first ∷ later) found.2 in
      let go = Among-map (λ (r : List Block). begin.0 ∷ r) (readings_of rows (drop n all)) (first ∷ later) begin.2 in
      elim among [
        | inl same ↦ (
          placed_at at n begin.0,
          Among-append_left (blocks_at rows at all) (blocks_from rows (at + 1) rest) (placed_at at n begin.0)
              (Among-flat_mapped (placed_choices rows at all) spans n (placed_at at n begin.0) found.1 (Among-mapped (placed_at at n) (choices rows (take n all)) begin.0 begin.1)),
          (let is : begin.0 ∷ go.0 ≡ first ∷ later = go.2 in cc),
        )
        | inr there ↦
            let on = is_placed later (at + n) (drop n all) block (subst (λ (r : List Block). Among (readings_of rows (drop n all)) r) (ap tail go.2) go.1) there in
            (on.0, behind n at all on.0 on.1, on.2)
      ]

  -- a level has the terms of its readings
  same_terms : (lists : List (List ItemView)) → HaveSame (terms_placed (map (level_of rows) lists)) (terms_among (map (readings_of rows) lists))
  same_terms [] = record { there = λ term h. h; back = λ term h. h }
  same_terms (items ∷ lists) = record {
    there = λ term h.
        let found = Among-map (λ (p : PlacedBlock). p.block.term) (blocks_from rows 0 items) term (Among-from_contains _ term h) in
        let read = is_read 0 items found.0 found.1 in
        Contains-from_among _ term (Among-flat_mapped terms_read (readings_of rows items) read.0 term read.1
        (subst (λ (t : TermView). Among (terms_read read.0) t) found.2 (Among-mapped (λ (b : Block). b.term) read.0 found.0.block read.2)));
    back = λ term h.
        let found = Among-flat_map terms_read (readings_of rows items) term (Among-from_contains _ term h) in
        let made = Among-map (λ (b : Block). b.term) found.0 term found.2 in
        let placed = is_placed found.0 0 items made.0 found.1 made.1 in
        Contains-from_among _ term
        (subst (λ (t : TermView). Among (map (λ (p : PlacedBlock). p.block.term) (blocks_from rows 0 items)) t) (ap (λ (b : Block). b.term) placed.2 ∙ made.2)
        (Among-mapped (λ (p : PlacedBlock). p.block.term) (blocks_from rows 0 items) placed.0 placed.1));
  }

  -- what terms the levels that are built have
  pub built_terms : (strategy : Strategy) (items list : List ItemView) (graphs : List LevelView) → graphs ≡ map (level_of rows) (levels strategy list) → list ≡ items
      → HaveSame (terms_placed graphs) (terms_among (map (readings_of rows) (levels strategy items)))
  built_terms strategy items list graphs made same =
      subst (λ (built : List LevelView). HaveSame (terms_placed built) (terms_among (map (readings_of rows) (levels strategy items))))
      (sym (made ∙ ap (λ (xs : List ItemView). map (level_of rows) (levels strategy xs)) same)) (same_terms (levels strategy items))
