-- The levels of a query: which of its items each of them keeps.
use Rattle.std.specs.Prelude.{ℕ, zero, suc, ◌-◌, Bool, true, false, not, if◌then◌else◌}
use Rattle.std.specs.Prelude.{List, [], ◌∷◌, length, map, filter}
use Rattle.search_base.specs.declared.query.Strategy.{Strategy}
use Rattle.search_base.specs.declared.query.Strategy.TheVariants.{Last, All}
use Rattle.search_base.specs.Hits.{numbers}
use Rattle.query_graph.specs.ItemView.{ItemView}

-- the item is a word
abbrev pub is_word : ItemView → Bool
is_word item = not item.phrase

-- how many of the items are words
abbrev pub word_count : List ItemView → ℕ
word_count items = length (filter is_word items)

-- the phrases, and the first n words
abbrev pub with_words : ℕ → List ItemView → List ItemView
with_words n [] = []
with_words zero (item ∷ items) = if item.phrase then item ∷ with_words zero items else with_words zero items
with_words (suc n) (item ∷ items) = if item.phrase then item ∷ with_words (suc n) items else item ∷ with_words n items

-- the items without the last j words
abbrev pub kept : ℕ → List ItemView → List ItemView
kept j items = with_words (word_count items - j) items

-- how many words may be dropped at the most
abbrev pub most_dropped : Strategy → List ItemView → ℕ
most_dropped Last items = word_count items
most_dropped All items = 0

abbrev pub has_items : List ItemView → Bool
has_items [] = false
has_items (item ∷ items) = true

-- what each level of the query keeps: a level drops none of the words, the next one drops one word, and so on while an
-- item stays
abbrev pub levels : Strategy → List ItemView → List (List ItemView)
levels strategy items = filter has_items (map (λ j. kept j items) (numbers 0 (suc (most_dropped strategy items))))
