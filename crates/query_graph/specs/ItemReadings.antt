-- How the items that a level keeps may be read. Nothing here knows of graphs or places.
use Rattle.std.specs.Prelude.{ℕ, Bool, true, false, List, [], ◌∷◌, ◌++◌, length, map, flat_map, if◌then◌else◌}
use Rattle.std.specs.List.{list_any, list_all, concat}
use Rattle.search_base.specs.declared.query.Block.{Block}
use Rattle.search_base.specs.declared.query.Kind.{Kind}
use Rattle.search_base.specs.declared.query.Kind.TheVariants.{Plain, Prefix, Phrase, Joined, Synonym}
use Rattle.search_base.specs.declared.query.Strategy.{Strategy}
use Rattle.search_base.specs.Query.{Query}
use Rattle.search_base.specs.TermView.{TermView}
use Rattle.synonym_terms.specs.SynonymRowView.{SynonymRowView}
use Rattle.synonym_terms.specs.Synonyms.{terms_for}
use Rattle.query_graph.specs.ItemView.{ItemView}
use Rattle.query_graph.specs.Levels.{is_word, levels}

-- the words of the items, phrases written out
abbrev pub words_of : List ItemView → List (List ℕ)
words_of items = flat_map (λ item. item.words) items

-- a block for some neighbouring items
abbrev pub block_of : List ItemView → Kind → TermView → Block
block_of part kind term = record { span = length part; term = term; kind = kind }

-- some words as they are, or the one word and each word that begins with it
abbrev pub term_of : Bool → List (List ℕ) → TermView
term_of prefix words = record { words = words; prefix = prefix }

-- the blocks of one item: the words of a phrase, one behind the other; a word, and for the prefix word also the words
-- that it begins
abbrev pub single : ItemView → List Block
single item =
    if item.phrase then block_of (item ∷ []) Phrase (term_of false item.words) ∷ []
    else block_of (item ∷ []) Plain (term_of false item.words)
    ∷ (if item.prefix then block_of (item ∷ []) Prefix (term_of true item.words) ∷ [] else [])

-- the block of two or three words that are written together. With the prefix word among them, which is the last one of
-- all, any word that begins so is meant
abbrev pub joined : List ItemView → Block
joined part = block_of part Joined (term_of (list_any (λ item. item.prefix) part) (concat (words_of part) ∷ []))

-- the blocks of some neighbouring items as they are written: two or three are read together where each is a word
abbrev pub written : List ItemView → List Block
written [] = []
written (item ∷ []) = single item
written (item ∷ next ∷ items) =
    if list_all is_word (item ∷ next ∷ items) then joined (item ∷ next ∷ items) ∷ [] else []

-- the blocks of what the words stand for by the rows of synonyms. A phrase stands for itself alone
abbrev pub synonyms : List SynonymRowView → List ItemView → List Block
synonyms rows part = if list_all is_word part then map (block_of part Synonym) (terms_for rows (words_of part)) else []

-- the blocks of one item, or of two or three neighbouring ones
abbrev pub choices : List SynonymRowView → List ItemView → List Block
choices rows part = written part ++ synonyms rows part

-- the readings that begin with one of these blocks and go on with one of those readings
abbrev pub begun_by : List Block → List (List Block) → List (List Block)
begun_by blocks onward = flat_map (λ block. map (λ reading. block ∷ reading) onward) blocks

-- the readings of the items: the first one, two or three are a block, and the others are read in the same way
abbrev pub readings_of : List SynonymRowView → List ItemView → List (List Block)
readings_of rows [] = [] ∷ []
readings_of rows (a ∷ []) = begun_by (choices rows (a ∷ [])) ([] ∷ [])
readings_of rows (a ∷ b ∷ []) =
    begun_by (choices rows (a ∷ [])) (readings_of rows (b ∷ []))
    ++ begun_by (choices rows (a ∷ b ∷ [])) ([] ∷ [])
readings_of rows (a ∷ b ∷ c ∷ items) =
    begun_by (choices rows (a ∷ [])) (readings_of rows (b ∷ c ∷ items))
    ++ (begun_by (choices rows (a ∷ b ∷ [])) (readings_of rows (c ∷ items))
    ++ begun_by (choices rows (a ∷ b ∷ c ∷ [])) (readings_of rows items))

-- the query of these items: the readings of each level, and the words of all items
abbrev pub query_for : Strategy → List SynonymRowView → List ItemView → Query
query_for strategy rows items =
    record { levels = map (readings_of rows) (levels strategy items); whole = words_of items }
