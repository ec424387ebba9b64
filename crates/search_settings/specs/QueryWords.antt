-- The words that settings give to queries: those that are left out, and those that stand for others.
use Rattle.std.specs.Prelude.{◌≡◌, ℕ, Bool, not, ◌&&◌, nat_lt, nat_le, List, [], ◌∷◌, length, map, filter, flat_map, Option, Some, None, Vec, if◌then◌else◌}
use Rattle.std.specs.BTreeSet.{BTreeSet}
use Rattle.std.specs.Cmp.Lexicographic.{pointwise}
use Rattle.std.specs.List.{filter_map, list_any}
use Rattle.std.specs.Str.{bytes_eq}
use Rattle.search_base.specs.declared.token.Token.{Token}
use Rattle.search_base.specs.declared.query.Strategy.{Strategy}
use Rattle.search_base.specs.Query.{Query}
use Rattle.search_call.specs.SearchView.{SearchView}
use Rattle.query_graph.specs.Items.{items_of}
use Rattle.query_graph.specs.ItemReadings.{query_for}
use Rattle.synonym_terms.specs.SynonymRowView.{SynonymRowView}
use Rattle.token_words.specs.Tokens.{tokens}
use Rattle.index_settings.specs.View.{SettingsView}

-- the one word of a text that has exactly one
abbrev pub only_word : List Token → Option (List ℕ)
only_word [] = None
only_word (token ∷ []) = Some token.word
only_word (token ∷ next ∷ later) = None

-- the words that a query leaves out: those of the entries that have one word each
abbrev pub stop_words_of : SettingsView → List (List ℕ)
stop_words_of settings = filter_map (λ entry. only_word (tokens entry)) settings.stop_words

-- the words of a text
abbrev pub words_of : List ℕ → List (List ℕ)
words_of text = map (λ token. token.word) (tokens text)

-- these words stand for the key; a text without words is passed over
abbrev pub synonym_row : List (List ℕ) → List (List ℕ) → Option SynonymRowView
synonym_row key [] = None
synonym_row key (word ∷ words) = Some (record { key = key; term = word ∷ words })

-- the rows of a key of one to three words and its texts; any other key is passed over
abbrev pub rows_under : List (List ℕ) → List (List ℕ) → List SynonymRowView
rows_under key texts =
    if nat_lt 0 (length key) && nat_le (length key) 3 then filter_map (λ text. synonym_row key (words_of text)) texts
    else []

-- the two rows have the same words
abbrev pub same_words : SynonymRowView → SynonymRowView → Bool
same_words row other = pointwise bytes_eq row.key other.key && pointwise bytes_eq row.term other.term

-- each row once: the first of those with the same words
abbrev pub each_once : List SynonymRowView → List SynonymRowView
each_once [] = []
each_once (row ∷ rows) = row ∷ filter (λ later. not (same_words later row)) (each_once rows)

-- what stands for what: a row for each text of each synonym, each row once
abbrev pub synonym_rows : SettingsView → List SynonymRowView
synonym_rows settings =
    each_once (flat_map (λ list. rows_under (words_of list.key) list.texts) settings.synonyms)

-- the words of the row are among these pairs of a term and its key
abbrev pub is_seen : {A B : Type 0} → BTreeSet (Vec (List ℕ) A × Vec (List ℕ) B) → SynonymRowView → Bool
is_seen seen row = list_any (λ words. same_words row (record { key = words.1.items; term = words.0.items })) seen.keys

-- the words that queries are read with
pub record QueryWordsView : Type 0 where
  pub stop_words : List (List ℕ)
  pub synonyms : List SynonymRowView

-- these are the words that the settings give
pub record AreWordsOf (words : QueryWordsView) (settings : SettingsView) : Type 0 where
  pub stop_words : words.stop_words ≡ stop_words_of settings
  pub synonyms : words.synonyms ≡ synonym_rows settings

-- what a text asks for that is searched with a strategy, under settings that say which words are left out and which
-- stand for others
abbrev pub query_of : SettingsView → Strategy → List ℕ → Query
query_of settings strategy text = query_for strategy (synonym_rows settings) (items_of text (stop_words_of settings))

-- what a search asks for
abbrev pub query_with : SettingsView → SearchView → Query
query_with settings call = query_of settings call.strategy call.q
