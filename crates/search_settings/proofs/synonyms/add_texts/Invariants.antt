use Rattle.std.proofs.Common.{◌≡◌, ◌++◌, take}
use Rattle.std.specs.List.{filter_map}
use Rattle.search_settings.specs.QueryWords.{synonym_row, words_of}
use Rattle.search_settings.proofs.synonyms.add_texts.Given as goal

-- the rows of the texts so far are added
abbrev pub invariant-loop-text : goal.invariant-loop-text
invariant-loop-text l = l.rows.items ≡ l.initial.rows.items ++ filter_map (λ text. synonym_row l.key.items (words_of text)) (take l.text-index l.texts)
