-- What the levels of a query keep.
use Rattle.std.proofs.Common.{◌≡◌, ◌∙◌, ℕ, zero, suc, ◌+◌, ◌-◌, ◌<◌, ◌≤◌, Bool, true, false, not, cond, List, [], ◌∷◌, ◌++◌, length, map, filter, flat_map, refl, sym, ap, arith, append_assoc, append-nil}
use Rattle.std.specs.List.{AllByRecursion}
use Rattle.search_base.specs.declared.query.Strategy.{Strategy}
use Rattle.search_base.specs.declared.query.Strategy.TheVariants.{Last, All}
use Rattle.search_base.specs.Hits.{numbers}
use Rattle.query_graph.specs.ItemView.{ItemView}
use Rattle.query_graph.specs.Items.{IsItem, EndsWithPrefix, AreItems}
use Rattle.query_graph.specs.Levels.{is_word, word_count, with_words, kept, most_dropped, has_items, levels}

-- what holds of each item holds of those that a level keeps
All-with_words : (P : ItemView → Type 0) (n : ℕ) (items : List ItemView) → AllByRecursion P items → AllByRecursion P (with_words n items)
All-with_words P n [] h = tt
All-with_words P zero (item ∷ items) h =
    elim item.phrase as (λ b. AllByRecursion P (cond b (item ∷ with_words zero items) (with_words zero items)))
    [ true ↦ (h.0, All-with_words P zero items h.1) | false ↦ All-with_words P zero items h.1 ]
All-with_words P (suc n) (item ∷ items) h =
    elim item.phrase as (λ b. AllByRecursion P (cond b (item ∷ with_words (suc n) items) (item ∷ with_words n items)))
    [ true ↦ (h.0, All-with_words P (suc n) items h.1) | false ↦ (h.0, All-with_words P n items h.1) ]

ends-with_words : (n : ℕ) (items : List ItemView) → EndsWithPrefix items → EndsWithPrefix (with_words n items)
ends-with_words n [] h = tt
ends-with_words zero (item ∷ items) h =
    elim item.phrase as (λ b. EndsWithPrefix (cond b (item ∷ with_words zero items) (with_words zero items)))
    [ true ↦ ((λ e. ap (with_words zero) (h.0 e)), ends-with_words zero items h.1) | false ↦ ends-with_words zero items h.1 ]
ends-with_words (suc n) (item ∷ items) h =
    elim item.phrase as (λ b. EndsWithPrefix (cond b (item ∷ with_words (suc n) items) (item ∷ with_words n items)))
    [ true ↦ ((λ e. ap (with_words (suc n)) (h.0 e)), ends-with_words (suc n) items h.1) | false ↦ ((λ e. ap (with_words n) (h.0 e)), ends-with_words n items h.1) ]

-- how many items are kept, and how many of them are words
kept_few : (n : ℕ) (items : List ItemView) → length (with_words n items) + word_count items ≤ length items + n
kept_few n [] = omega arith
kept_few zero (item ∷ items) =
    let h = kept_few zero items in
    elim item.phrase as (λ b. length (cond b (item ∷ with_words zero items) (with_words zero items)) + length (cond (not b) (item ∷ filter is_word items) (filter is_word items)) ≤ suc (length items) + zero)
    [ true ↦ omega (arith, h) | false ↦ omega (arith, h) ]
kept_few (suc n) (item ∷ items) =
    let h = kept_few (suc n) items in let g = kept_few n items in
    elim item.phrase as (λ b. length (cond b (item ∷ with_words (suc n) items) (item ∷ with_words n items)) + length (cond (not b) (item ∷ filter is_word items) (filter is_word items)) ≤ suc (length items) + suc n)
    [ true ↦ omega (arith, h) | false ↦ omega (arith, g) ]

pub kept_le : (n : ℕ) (items : List ItemView) → length (with_words n items) ≤ length items
kept_le n [] = omega arith
kept_le zero (item ∷ items) =
    let h = kept_le zero items in
    elim item.phrase as (λ b. length (cond b (item ∷ with_words zero items) (with_words zero items)) ≤ suc (length items)) [ true ↦ omega (arith, h) | false ↦ omega (arith, h) ]
kept_le (suc n) (item ∷ items) =
    let h = kept_le (suc n) items in let g = kept_le n items in
    elim item.phrase as (λ b. length (cond b (item ∷ with_words (suc n) items) (item ∷ with_words n items)) ≤ suc (length items)) [ true ↦ omega (arith, h) | false ↦ omega (arith, g) ]

-- there are items
pub some_items : (items : List ItemView) → has_items items ≡ true → 0 < length items
some_items [] h = absurd (cc)
some_items (item ∷ items) h = omega arith

-- the items that a level keeps are items
pub kept_are : (j : ℕ) (items : List ItemView) → AreItems items → AreItems (kept j items)
kept_are j items h =
    let n = word_count items - j in
    record { few = omega (arith, kept_le n items, h.few); each = All-with_words IsItem n items h.each; prefix = ends-with_words n items h.prefix }

-- what holds of the kept lists with an item holds of all levels
one_level : (P : List ItemView → Type 0) (list : List ItemView) (rest : List (List ItemView)) → (has_items list ≡ true → P list) → AllByRecursion P rest
    → (b : Bool) → has_items list ≡ b → AllByRecursion P (cond b (list ∷ rest) rest)
one_level P list rest h all true e = (h e, all)
one_level P list rest h all false e = all

pub levels_from : (P : List ItemView → Type 0) (items : List ItemView) → ((j : ℕ) → has_items (kept j items) ≡ true → P (kept j items)) → (j n : ℕ)
    → AllByRecursion P (filter has_items (map (λ k. kept k items) (numbers j n)))
levels_from P items h j zero = tt
levels_from P items h j (suc n) =
    one_level P (kept j items) (filter has_items (map (λ k. kept k items) (numbers (suc j) n))) (h j) (levels_from P items h (suc j) n) (has_items (kept j items)) refl

-- from level j on there are no more levels than items are left
one_more : (items : List ItemView) (j : ℕ) (rest : List (List ItemView)) → j ≤ word_count items → length rest ≤ length items - suc j
    → (b : Bool) → has_items (kept j items) ≡ b → length (cond b (kept j items ∷ rest) rest) ≤ length items - j
one_more items j rest le h true e =
    let some = some_items (kept j items) e in
    let few = kept_few (word_count items - j) items in
    omega (arith, h, some, few, le)
one_more items j rest le h false e = omega (arith, h)

count_from : (items : List ItemView) (j n : ℕ) → j + n ≤ suc (word_count items) → length (filter has_items (map (λ k. kept k items) (numbers j n))) ≤ length items - j
count_from items j zero h = omega arith
count_from items j (suc n) h =
    one_more items j (filter has_items (map (λ k. kept k items) (numbers (suc j) n))) (omega (arith, h)) (count_from items (suc j) n (omega (arith, h))) (has_items (kept j items)) refl

most_le : (strategy : Strategy) (items : List ItemView) → most_dropped strategy items ≤ word_count items
most_le Last items = omega arith
most_le All items = omega arith

pub levels_few : (strategy : Strategy) (items : List ItemView) → AreItems items → length (levels strategy items) ≤ 10
levels_few strategy items h =
    let le = most_le strategy items in
    let count = count_from items 0 (suc (most_dropped strategy items)) (omega (arith, le)) in
    omega (arith, count, h.few)

-- a query without items has no level
pub no_levels : (strategy : Strategy) → levels strategy [] ≡ []
no_levels Last = refl
no_levels All = refl

-- ---- one number more

pub numbers_more : {Y : Type 0} (f : ℕ → List Y) (done whole : List Y) (k most : ℕ) → k < most + 1 → done ++ flat_map f (numbers k (most + 1 - k)) ≡ whole
    → (done ++ f k) ++ flat_map f (numbers (k + 1) (most + 1 - (k + 1))) ≡ whole
numbers_more f done whole k most h told =
    let left : most + 1 - k ≡ suc (most + 1 - (k + 1)) = omega arith in
    let next : suc k ≡ k + 1 = omega arith in
    append_assoc done (f k) _ ∙ ap (λ n. done ++ (f k ++ flat_map f (numbers n (most + 1 - (k + 1))))) (sym next) ∙ (rw left at told)

-- a level, where it keeps an item
abbrev pub level_if : {Y : Type 0} → (List ItemView → Y) → List ItemView → ℕ → List Y
level_if level items j = map level (filter has_items (kept j items ∷ []))

-- what is added for the next level
pub levels_more : {Y : Type 0} (level : List ItemView → Y) (items list : List ItemView) (words j most : ℕ) (done more whole : List Y) → words ≡ word_count items → list ≡ with_words (words - j) items
    → more ≡ done ++ map level (filter has_items (list ∷ [])) → j < most + 1 → done ++ flat_map (level_if level items) (numbers j (most + 1 - j)) ≡ whole
    → more ++ flat_map (level_if level items) (numbers (j + 1) (most + 1 - (j + 1))) ≡ whole
levels_more level items list words j most done more whole count is added h told =
    let here : list ≡ kept j items = is ∙ ap (λ n. with_words (n - j) items) count in
    ap (λ (graphs : List _). graphs ++ flat_map (level_if level items) (numbers (j + 1) (most + 1 - (j + 1))))
    (added ∙ ap (λ (l : List ItemView). done ++ map level (filter has_items (l ∷ []))) here)
    ∙ numbers_more (level_if level items) done whole j most h told

pub levels_each : {Y : Type 0} (level : List ItemView → Y) (items : List ItemView) (j n : ℕ)
    → flat_map (level_if level items) (numbers j n) ≡ map level (filter has_items (map (λ k. kept k items) (numbers j n)))
levels_each {Y = Y} level items j zero = refl
levels_each {Y = Y} level items j (suc n) = by (has_items (kept j items)) (levels_each level items (suc j) n)
  where
    by : (b : Bool) → flat_map (level_if level items) (numbers (suc j) n) ≡ map level (filter has_items (map (λ k. kept k items) (numbers (suc j) n)))
        → map level (cond b (kept j items ∷ []) []) ++ flat_map (level_if level items) (numbers (suc j) n)
        ≡ map level (cond b (kept j items ∷ filter has_items (map (λ k. kept k items) (numbers (suc j) n))) (filter has_items (map (λ k. kept k items) (numbers (suc j) n))))
    by true e = ap (λ (later : List Y). level (kept j items) ∷ later) e
    by false e = e

-- all levels are there
pub levels_done : {Y : Type 0} (level : List ItemView → Y) (strategy : Strategy) (items : List ItemView) (j most : ℕ) (done : List Y) → most ≡ most_dropped strategy items → most + 1 ≤ j
    → done ++ flat_map (level_if level items) (numbers j (most + 1 - j)) ≡ flat_map (level_if level items) (numbers 0 (most + 1)) → done ≡ map level (levels strategy items)
levels_done level strategy items j most done is past told =
    let none : most + 1 - j ≡ 0 = omega arith in
    let all : most + 1 ≡ suc (most_dropped strategy items) = omega arith in
    sym (append-nil done) ∙ (rw none at told) ∙ levels_each level items 0 (most + 1) ∙ ap (λ n. map level (filter has_items (map (λ k. kept k items) (numbers 0 n)))) all
