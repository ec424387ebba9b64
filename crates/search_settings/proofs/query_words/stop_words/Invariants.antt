use Rattle.std.proofs.Common.{◌≡◌, ◌++◌, drop}
use Rattle.std.specs.List.{filter_map}
use Rattle.token_words.specs.Tokens.{tokens}
use Rattle.search_settings.specs.QueryWords.{only_word, stop_words_of}
use Rattle.search_settings.proofs.query_words.stop_words.Given as goal

-- the words so far and those of the entries to come are the stop words
abbrev pub invariant-loop-entry : goal.invariant-loop-entry
invariant-loop-entry l = l.words.items ++ filter_map (λ entry. only_word (tokens entry)) (drop l.entry-index l.settings.stop_words) ≡ stop_words_of l.settings
