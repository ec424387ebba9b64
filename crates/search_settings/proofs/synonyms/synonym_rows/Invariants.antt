use Rattle.std.proofs.Common.{◌≡◌, take}
use Rattle.std.specs.List.{flat_map}
use Rattle.search_settings.specs.QueryWords.{rows_under, words_of}
use Rattle.search_settings.proofs.synonyms.synonym_rows.Given as goal

-- the rows of the synonyms so far
abbrev pub invariant-loop-list : goal.invariant-loop-list
invariant-loop-list l = l.rows.items ≡ flat_map (λ list. rows_under (words_of list.key) list.texts) (take l.list-index l.list-items)
